use Rattle.std.proofs.Common.{Bool, List, [], ◌∷◌, subst}
use Rattle.run_merge.specs.Merging.{GivesInto, GivesOne}
use Rattle.run_merge.specs.Cutting.{part_of}
use Rattle.run_merge.specs.Sorted.{all_records}
use Rattle.shared_tape.specs.declared.stored.Record.{Record}
use Rattle.gin_pack.proofs.Packing.{fewer-left}
use Rattle.build_leader.specs.Gin.{AreEntries}
use Rattle.build_leader.proofs.PostingRuns.{all_gathered, entries_of, gathering, none_gathered, one_gathered, part_entries}
use Rattle.build_leader.proofs.gin.posting_parts.PostingWorkPartWork.make.Goals as goal

pub records-init : goal.records-init
records-init c =
    let kind = c.args.self.now.kind in
    let order = c.args.order.now in
    let whole : List Record = part_of order c.args.cuts.now c.args.part (all_records c.args.tapes.now) in
    let entries : AreEntries (kind ∷ []) order whole =
    part_entries (kind ∷ []) order c.args.cuts.now c.args.part (all_records c.args.tapes.now) c.requires.records in
    none_gathered kind order whole c.in_ok-merge.merge c.new-writer.result c.in_ok-merge.ensures.order c.in_ok-merge.ensures.left
    (entries_of kind order whole entries) (c.new-writer.ensures kind)

pub put-requires : goal.put-requires
put-requires c =
    gathering c.args.self.now.kind c.args.order.now (part_of c.args.order.now c.args.cuts.now c.args.part (all_records c.args.tapes.now))
    c.records.merge c.records.writer c.records.invariant

pub records-smaller : goal.records-smaller
records-smaller c =
    let old = c.records.merge in
    let new = c.next_into.new.self in
    let row = c.next_into.new.row in
    let one : GivesOne old row new =
    subst (λ (given : Bool). GivesInto old new given row) c.if-branch.true c.in_ok-next_into.ensures.given in
    fewer-left old new row one

pub records-preserved : goal.records-preserved
records-preserved c =
    let kind = c.args.self.now.kind in
    let order = c.args.order.now in
    let whole : List Record = part_of order c.args.cuts.now c.args.part (all_records c.args.tapes.now) in
    let entries : AreEntries (kind ∷ []) order whole =
    part_entries (kind ∷ []) order c.args.cuts.now c.args.part (all_records c.args.tapes.now) c.requires.records in
    let old = c.records.merge in
    let new = c.next_into.new.self in
    let row = c.next_into.new.row in
    let one : GivesOne old row new =
    subst (λ (given : Bool). GivesInto old new given row) c.if-branch.true c.in_ok-next_into.ensures.given in
    one_gathered kind order whole old new c.records.writer c.put.new.self row entries.order entries.apart one c.in_ok-put.ensures c.records.invariant

pub finish-requires : goal.finish-requires
finish-requires c =
    gathering c.args.self.now.kind c.args.order.now (part_of c.args.order.now c.args.cuts.now c.args.part (all_records c.args.tapes.now))
    c.records.merge c.records.writer c.records.invariant

pub returns : goal.returns
returns c =
    let old = c.records.merge in
    let none = subst (λ (given : Bool). GivesInto old c.next_into.new.self given c.next_into.new.row) c.if-branch.false
    c.in_ok-next_into.ensures.given in
    record {
      made =
          all_gathered c.args.self.now.kind c.args.order.now
          (part_of c.args.order.now c.args.cuts.now c.args.part (all_records c.args.tapes.now))
          old c.records.writer c.in_ok-finish.field-0 none.0 c.in_ok-finish.ensures c.records.invariant;
      refused = tt;
    }
