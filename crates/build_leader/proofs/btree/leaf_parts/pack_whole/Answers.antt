use Rattle.std.proofs.lemmas.Result.{IfErr-weaker, IfOk-weaker}
use Rattle.run_merge.specs.Sorted.{all_records}
use Rattle.build_leader.specs.IndexRow.{index_kinds}
use Rattle.build_leader.specs.Pass.{IsPackFault, IsPackedFile}
use Rattle.build_leader.proofs.Packed.{whole_fault, whole_file, whole_rows}
use Rattle.build_leader.proofs.PartRows.{only_part}
use Rattle.build_leader.proofs.btree.leaf_parts.pack_whole.Goals as goal

pub pack-requires-clause-rows : goal.pack-requires-clause-rows
pack-requires-clause-rows c =
    let plan = c.args.plan.now in
    let order = c.args.order.now in
    let merge = c.in_ok-merge.merge in
    let whole = all_records c.args.tapes.now in
    whole_rows plan.spec merge.order order whole merge.left c.in_ok-merge.ensures.order
    (only_part order _ whole merge.left c.none.ensures c.in_ok-merge.ensures.left)
    (index_kinds plan.table plan.spec) c.in_ok-kinds.kinds c.in_ok-kinds.ensures c.requires.rows

pub returns-clause-refused : goal.returns-clause-refused
returns-clause-refused c =
    let plan = c.args.plan.now in
    let order = c.args.order.now in
    let merge = c.in_ok-merge.merge in
    let whole = all_records c.args.tapes.now in
    IfErr-weaker c.pack.result (IsPackFault plan.spec merge.order merge.left) (IsPackFault plan.spec order whole)
    (whole_fault plan.spec merge.order order whole merge.left c.in_ok-merge.ensures.order
    (only_part order _ whole merge.left c.none.ensures c.in_ok-merge.ensures.left)) c.pack.ensures.refused

pub returns-clause-packed : goal.returns-clause-packed
returns-clause-packed c =
    let plan = c.args.plan.now in
    let order = c.args.order.now in
    let merge = c.in_ok-merge.merge in
    let whole = all_records c.args.tapes.now in
    let kinds = index_kinds plan.table plan.spec in
    IfOk-weaker c.pack.result (IsPackedFile plan.spec c.in_ok-kinds.kinds merge.order merge.left)
    (IsPackedFile plan.spec kinds order whole)
    (λ file. whole_file plan.spec merge.order order whole merge.left c.in_ok-merge.ensures.order
    (only_part order _ whole merge.left c.none.ensures c.in_ok-merge.ensures.left)
    c.in_ok-kinds.kinds kinds file c.in_ok-kinds.ensures) c.pack.ensures.packed
