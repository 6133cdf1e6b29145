use Rattle.std.proofs.Common.{List, sym, subst, arith}
use Rattle.opclass.specs.declared.spec.SortPart.{SortPart}
use Rattle.opclass.specs.declared.types.ColType.{ColType}
use Rattle.run_merge.specs.Sorted.{all_records}
use Rattle.build_leader.specs.IndexRow.{index_kinds}
use Rattle.build_leader.specs.Gin.{AreEntries, CountsRecords, IsEntryFile}
use Rattle.build_leader.proofs.gin.pack_postings.Goals as goal

pub pack_entries-requires-clause-entries : goal.pack_entries-requires-clause-entries
pack_entries-requires-clause-entries g c κs within =
    let records = all_records c.args.tapes in
    let counts : CountsRecords records c.in-Some.pairs = c.in-Some.ensures in
    let count = counts.count_is in
    let few = counts.few in
    let plan = c.args.plan.now in
    subst (λ (kinds : List ColType). AreEntries kinds c.in_ok-order.order records) (sym c.in_ok-kinds.ensures)
    (subst (λ (order : List SortPart). AreEntries (index_kinds plan.table plan.spec) order records) (sym c.in_ok-order.ensures)
    (c.requires.entries (omega (arith, count, few))))

pub returns-clause-image : goal.returns-clause-image
returns-clause-image g c =
    record {
      image = subst (λ (kinds : List ColType). IsEntryFile kinds (all_records c.args.tapes) c.in_ok-pack_entries.field-0) c.in_ok-kinds.ensures
          c.in_ok-pack_entries.ensures.image;
      pairs = (let count = c.in-Some.ensures.count_is in omega (arith, count, c.from.ensures));
    }
