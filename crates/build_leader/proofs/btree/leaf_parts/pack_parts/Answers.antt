use Rattle.std.proofs.Common.{ℕ, ◌+◌, subst}
use Rattle.std.proofs.lemmas.Result.{err_from_is_err_and}
use Rattle.run_merge.specs.Sorted.{all_records}
use Rattle.run_merge.proofs.KeyCuts.{keys_apart}
use Rattle.build_leader.specs.IndexRow.{index_kinds}
use Rattle.build_leader.specs.KeyParts.{AreMade, IsRefused}
use Rattle.build_leader.specs.Pass.{IsPackFault, IsWrittenRun}
use Rattle.build_leader.proofs.LeafRuns.{refused_by_part, runs_are_packed, runs_hold}
use Rattle.build_leader.proofs.btree.leaf_parts.pack_parts.Goals as goal

pub returns-in_err-runs-clause-refused : goal.returns-in_err-runs-clause-refused
returns-in_err-runs-clause-refused g c =
    let p = err_from_is_err_and c.from_residual-in_err-runs.result c.from_residual-in_err-runs.ensures.1 in
    let spec = c.args.plan.now.spec in
    let kinds = index_kinds c.args.plan.now.table spec in
    let order = c.args.order.now in
    let tapes = c.args.tapes.now in
    let cuts = c.in_ok-cuts.cuts in
    let records = all_records tapes in
    rw (p.1, p.2)
    (refused_by_part spec kinds order cuts records c.requires.storable c.len.ensures.ascending
    (keys_apart order tapes c.args.threads cuts c.requires.order c.requires.storable c.in_ok-cuts.ensures)
    c.in_err-runs.field-0.0
    (subst (λ (count : ℕ). IsRefused (IsWrittenRun spec kinds order) (IsPackFault spec order) order cuts records (count + 1)
    c.in_err-runs.field-0.0) c.len.ensures.length c.in_err-runs.ensures.refused))

pub lay-requires-clause-runs : goal.lay-requires-clause-runs
lay-requires-clause-runs g c =
    let spec = c.args.plan.now.spec in
    let kinds = index_kinds c.args.plan.now.table spec in
    let order = c.args.order.now in
    let tapes = c.args.tapes.now in
    let cuts = c.in_ok-cuts.cuts in
    let records = all_records tapes in
    runs_hold spec kinds order cuts records c.requires.storable c.len.ensures.ascending
    (keys_apart order tapes c.args.threads cuts c.requires.order c.requires.storable c.in_ok-cuts.ensures)
    c.in_ok-runs.runs.items
    (subst (λ (count : ℕ). AreMade (IsWrittenRun spec kinds order) order cuts records (count + 1) c.in_ok-runs.runs.items)
    c.len.ensures.length c.in_ok-runs.ensures.made)

pub returns-clause-packed : goal.returns-clause-packed
returns-clause-packed g c =
    let spec = c.args.plan.now.spec in
    let kinds = index_kinds c.args.plan.now.table spec in
    let order = c.args.order.now in
    let tapes = c.args.tapes.now in
    let cuts = c.in_ok-cuts.cuts in
    let records = all_records tapes in
    runs_are_packed spec kinds order cuts records c.requires.storable c.len.ensures.ascending
    (keys_apart order tapes c.args.threads cuts c.requires.order c.requires.storable c.in_ok-cuts.ensures)
    c.in_ok-runs.runs.items
    (subst (λ (count : ℕ). AreMade (IsWrittenRun spec kinds order) order cuts records (count + 1) c.in_ok-runs.runs.items)
    c.len.ensures.length c.in_ok-runs.ensures.made)
    c.in_ok-lay.field-0 c.in_ok-lay.ensures
