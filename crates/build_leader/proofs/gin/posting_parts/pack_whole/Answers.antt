use Rattle.std.proofs.Common.{[], ◌∷◌}
use Rattle.std.proofs.lemmas.List.Sorted.{IsPermutation-sym}
use Rattle.run_merge.specs.Sorted.{all_records}
use Rattle.gin_pack.proofs.Packing.{moved-file}
use Rattle.build_leader.proofs.PostingRuns.{entries_of, moved_entries, of_kind, with_kind}
use Rattle.build_leader.proofs.gin.posting_parts.pack_whole.Goals as goal

pub pack-requires-clause-entries : goal.pack-requires-clause-entries
pack-requires-clause-entries c =
    let kind = c.get.result.now in
    let records = all_records c.args.tapes in
    let merged = c.in_ok-merged.merged in
    entries_of kind c.args.order merged.left
    (moved_entries (kind ∷ []) c.args.order records merged.left c.in_ok-merged.ensures.left
    (with_kind c.args.kinds.now kind c.args.order records c.requires.entries c.get.ensures))

pub pack-requires-clause-apart : goal.pack-requires-clause-apart
pack-requires-clause-apart c =
    (moved_entries c.args.kinds.now c.args.order (all_records c.args.tapes) c.in_ok-merged.merged.left c.in_ok-merged.ensures.left
    c.requires.entries).apart

pub pack-requires-clause-few : goal.pack-requires-clause-few
pack-requires-clause-few c =
    (moved_entries c.args.kinds.now c.args.order (all_records c.args.tapes) c.in_ok-merged.merged.left c.in_ok-merged.ensures.left
    c.requires.entries).few

pub returns-clause-image : goal.returns-clause-image
returns-clause-image c =
    let kind = c.get.result.now in
    let records = all_records c.args.tapes in
    let merged = c.in_ok-merged.merged in
    record {
      kind = kind;
      one = of_kind c.args.kinds.now kind c.args.order records c.requires.entries c.get.ensures;
      file_is =
          moved-file kind merged.left records c.in_ok-pack.field-0
          (IsPermutation-sym records merged.left c.in_ok-merged.ensures.left) c.in_ok-pack.ensures;
    }
