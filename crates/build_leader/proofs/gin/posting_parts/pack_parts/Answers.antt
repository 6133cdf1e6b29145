use Rattle.std.proofs.Common.{◌+◌, ℕ, subst}
use Rattle.run_merge.specs.Sorted.{all_records}
use Rattle.run_merge.proofs.KeyCuts.{keys_apart}
use Rattle.build_leader.specs.Gin.{IsPostingRun}
use Rattle.build_leader.specs.KeyParts.{AreMade}
use Rattle.build_leader.proofs.PostingRuns.{of_kind, postings_are_packed, runs_hold_entries, with_kind}
use Rattle.build_leader.proofs.gin.posting_parts.pack_parts.Goals as goal

pub store-requires : goal.store-requires
store-requires g c =
    let kind = c.get-kind.result.now in
    let order = c.args.order.now in
    let tapes = c.args.tapes.now in
    let cuts = c.in_ok-cuts.cuts in
    runs_hold_entries kind order cuts (all_records tapes) (with_kind c.args.kinds.now kind order (all_records tapes) c.requires.entries c.get-kind.ensures)
    c.requires.storable c.len.ensures.ascending
    (keys_apart order tapes c.args.threads cuts c.requires.order c.requires.storable c.in_ok-cuts.ensures) c.in_ok-runs.runs.items
    (subst (λ (count : ℕ). AreMade (IsPostingRun kind order) order cuts (all_records tapes) (count + 1) c.in_ok-runs.runs.items)
    c.len.ensures.length c.in_ok-runs.ensures.made)

pub returns-clause-image : goal.returns-clause-image
returns-clause-image g c =
    let kind = c.get-kind.result.now in
    let order = c.args.order.now in
    let tapes = c.args.tapes.now in
    let cuts = c.in_ok-cuts.cuts in
    record {
      kind = kind;
      one = of_kind c.args.kinds.now kind order (all_records tapes) c.requires.entries c.get-kind.ensures;
      file_is =
          postings_are_packed kind order cuts (all_records tapes)
          (with_kind c.args.kinds.now kind order (all_records tapes) c.requires.entries c.get-kind.ensures)
          c.requires.storable c.len.ensures.ascending
          (keys_apart order tapes c.args.threads cuts c.requires.order c.requires.storable c.in_ok-cuts.ensures) c.in_ok-runs.runs.items
          (subst (λ (count : ℕ). AreMade (IsPostingRun kind order) order cuts (all_records tapes) (count + 1) c.in_ok-runs.runs.items)
          c.len.ensures.length c.in_ok-runs.ensures.made)
          c.in_ok-store.field-0 c.in_ok-store.ensures;
    }
