use Rattle.std.proofs.Common.{◌≡◌, ℕ, subst}
use Rattle.std.proofs.lemmas.Result.{IfOk-weaker}
use Rattle.run_merge.specs.Sorted.{all_records}
use Rattle.build_leader.specs.declared.fault.LeadFault.{LeadFault}
use Rattle.build_leader.specs.declared.fault.LeadFault.TheVariants as lead
use Rattle.build_leader.specs.declared.taken.Packed.{Packed}
use Rattle.build_leader.specs.Calls.{IsLeadFault}
use Rattle.build_leader.specs.Holding.{all_ranges}
use Rattle.build_leader.specs.IndexRow.{index_kinds}
use Rattle.build_leader.specs.Outcome.{order_of_index}
use Rattle.build_leader.specs.Packing.{AreEntriesPacked, AreSummariesPacked, IsPackedOf, IsRangeFault}
use Rattle.build_leader.specs.Pass.{IsPackFault, IsPackedFile}
use Rattle.build_leader.proofs.ScanOutcomes.{err_then}
use Rattle.build_leader.proofs.Packed.{both_ok, entries_on_tapes, entries_packed, entry_fault, range_fault, range_kinds, range_sizes, ranges_packed, tree_columns, tree_fault, tree_packed, tree_rows}
use Rattle.build_leader.proofs.taken.pack_taken.Goals as goal

pub pack_rows-requires-clause-columns : goal.pack_rows-requires-clause-columns
pack_rows-requires-clause-columns g c κs within =
    tree_columns c.args.plan.now c.args.heap.now c.args.tapes c.args.ranges c.args.rows c.requires.plan c.requires.rows c.in-BTree.is

pub pack_rows-requires-clause-rows : goal.pack_rows-requires-clause-rows
pack_rows-requires-clause-rows g c κs within =
    tree_rows c.args.plan.now c.args.heap.now c.args.tapes c.args.ranges c.args.rows c.requires.plan c.requires.rows c.in-BTree.is

pub returns-in-BTree-clause-packed : goal.returns-in-BTree-clause-packed
returns-in-BTree-clause-packed g c =
    let plan = c.args.plan.now in
    both_ok (λ (packed : Packed). IsPackedFile plan.spec (index_kinds plan.table plan.spec) (order_of_index plan.spec)
    (all_records c.args.tapes) packed.image) (λ (packed : Packed). packed.pairs ≡ c.args.rows)
    (IsPackedOf plan c.args.heap.now c.args.rows) c.pack_rows.result
    (tree_packed plan c.args.heap.now c.args.tapes c.args.ranges c.args.rows c.requires.plan c.requires.rows c.in-BTree.is)
    c.pack_rows.ensures.image c.pack_rows.ensures.pairs

pub returns-in-BTree-clause-refused : goal.returns-in-BTree-clause-refused
returns-in-BTree-clause-refused g c =
    let plan = c.args.plan.now in
    err_then (IsPackFault plan.spec (order_of_index plan.spec) (all_records c.args.tapes)) (IsLeadFault plan c.args.heap.now)
    c.pack_rows.result
    (tree_fault plan c.args.heap.now c.args.tapes c.args.ranges c.args.rows c.requires.plan c.requires.rows c.in-BTree.is)
    c.pack_rows.ensures.refused

pub pack_summaries-requires-clause-kinds : goal.pack_summaries-requires-clause-kinds
pack_summaries-requires-clause-kinds g c =
    range_kinds c.args.plan.now c.args.heap.now c.args.tapes c.args.ranges c.args.rows c.requires.plan c.requires.rows c.in-Brin.is

pub pack_summaries-requires-clause-sizes : goal.pack_summaries-requires-clause-sizes
pack_summaries-requires-clause-sizes g c =
    range_sizes c.args.plan.now c.args.heap.now c.args.tapes c.args.ranges c.args.rows c.requires.plan c.requires.rows c.in-Brin.is
    c.count_blocks-blocks.ensures.bytes

pub returns-in-Brin-clause-packed : goal.returns-in-Brin-clause-packed
returns-in-Brin-clause-packed g c =
    let plan = c.args.plan.now in
    IfOk-weaker c.pack_summaries.result (AreSummariesPacked plan c.count_blocks-blocks.result (all_ranges c.args.ranges))
    (IsPackedOf plan c.args.heap.now c.args.rows)
    (λ packed are.
    ranges_packed plan c.args.heap.now c.args.tapes c.args.ranges c.args.rows c.requires.plan c.requires.rows c.in-Brin.is packed
    (subst (λ (blocks : ℕ). AreSummariesPacked plan blocks (all_ranges c.args.ranges) packed) c.count_blocks-blocks.ensures.blocks are))
    c.pack_summaries.ensures.packed

pub returns-in-Brin-clause-refused : goal.returns-in-Brin-clause-refused
returns-in-Brin-clause-refused g c =
    let plan = c.args.plan.now in
    err_then (IsRangeFault plan c.count_blocks-blocks.result (all_ranges c.args.ranges)) (IsLeadFault plan c.args.heap.now)
    c.pack_summaries.result
    (λ fault is.
    range_fault plan c.args.heap.now c.args.tapes c.args.ranges c.args.rows c.requires.plan c.requires.rows c.in-Brin.is fault
    (subst (λ (blocks : ℕ). IsRangeFault plan blocks (all_ranges c.args.ranges) fault) c.count_blocks-blocks.ensures.blocks is))
    c.pack_summaries.ensures.refused

pub pack_postings-requires-clause-entries : goal.pack_postings-requires-clause-entries
pack_postings-requires-clause-entries g c κs within =
    entries_on_tapes c.args.plan.now c.args.heap.now c.args.tapes c.args.ranges c.args.rows c.requires.plan c.requires.rows c.in-Gin.is
    c.count_blocks-blocks.ensures.bytes

pub returns-in-Gin-clause-packed : goal.returns-in-Gin-clause-packed
returns-in-Gin-clause-packed g c =
    let plan = c.args.plan.now in
    IfOk-weaker c.pack_postings.result (AreEntriesPacked plan (all_records c.args.tapes))
    (IsPackedOf plan c.args.heap.now c.args.rows)
    (entries_packed plan c.args.heap.now c.args.tapes c.args.ranges c.args.rows c.requires.plan c.requires.rows c.in-Gin.is)
    c.pack_postings.ensures.image

pub returns-in-Gin-clause-refused : goal.returns-in-Gin-clause-refused
returns-in-Gin-clause-refused g c =
    let plan = c.args.plan.now in
    err_then (λ (fault : LeadFault). fault ≡ lead.Memory) (IsLeadFault plan c.args.heap.now) c.pack_postings.result
    (entry_fault plan c.args.heap.now c.args.tapes c.args.ranges c.args.rows c.requires.plan c.requires.rows c.in-Gin.is)
    c.pack_postings.ensures.refused
