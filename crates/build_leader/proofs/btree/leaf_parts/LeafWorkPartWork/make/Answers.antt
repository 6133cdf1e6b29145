use Rattle.std.proofs.lemmas.Result.{IfErr-weaker, IfOk-weaker}
use Rattle.run_merge.specs.Cutting.{part_of}
use Rattle.run_merge.specs.Sorted.{all_records}
use Rattle.build_leader.specs.IndexRow.{index_kinds}
use Rattle.build_leader.specs.Pass.{IsPackFault, IsWrittenRun}
use Rattle.build_leader.proofs.LeafRuns.{rows_of_part}
use Rattle.build_leader.proofs.Packed.{whole_fault, whole_rows, whole_run}
use Rattle.build_leader.proofs.btree.leaf_parts.LeafWorkPartWork.make.Goals as goal

pub write_leaves-requires-clause-rows : goal.write_leaves-requires-clause-rows
write_leaves-requires-clause-rows c =
    let plan = c.args.self.now.plan.now in
    let order = c.args.order.now in
    let merge = c.in_ok-merge.merge in
    let kinds = index_kinds plan.table plan.spec in
    let records = all_records c.args.tapes.now in
    let part = part_of order c.args.cuts.now c.args.part records in
    whole_rows plan.spec merge.order order part merge.left c.in_ok-merge.ensures.order c.in_ok-merge.ensures.left
    kinds c.in_ok-kinds.kinds c.in_ok-kinds.ensures
    (rows_of_part plan.spec kinds order c.args.cuts.now c.args.part records c.requires.records)

pub returns-clause-refused : goal.returns-clause-refused
returns-clause-refused c =
    let plan = c.args.self.now.plan.now in
    let order = c.args.order.now in
    let merge = c.in_ok-merge.merge in
    let part = part_of order c.args.cuts.now c.args.part (all_records c.args.tapes.now) in
    IfErr-weaker c.write_leaves.result (IsPackFault plan.spec merge.order merge.left) (IsPackFault plan.spec order part)
    (whole_fault plan.spec merge.order order part merge.left c.in_ok-merge.ensures.order c.in_ok-merge.ensures.left)
    c.write_leaves.ensures.refused

pub returns-clause-made : goal.returns-clause-made
returns-clause-made c =
    let plan = c.args.self.now.plan.now in
    let order = c.args.order.now in
    let merge = c.in_ok-merge.merge in
    let kinds = index_kinds plan.table plan.spec in
    let part = part_of order c.args.cuts.now c.args.part (all_records c.args.tapes.now) in
    IfOk-weaker c.write_leaves.result (IsWrittenRun plan.spec c.in_ok-kinds.kinds merge.order merge.left)
    (IsWrittenRun plan.spec kinds order part)
    (λ run. whole_run plan.spec merge.order order part merge.left c.in_ok-merge.ensures.order c.in_ok-merge.ensures.left
    c.in_ok-kinds.kinds kinds run c.in_ok-kinds.ensures) c.write_leaves.ensures.written
