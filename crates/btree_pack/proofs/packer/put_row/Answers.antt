use Rattle.std.proofs.Common.{subst}
use Rattle.std.specs.Prelude.{IfSome}
use Rattle.btree_pack.specs.Pass.Taken.{HasTaken, IsDone, row_of}
use Rattle.btree_pack.proofs.Puts.{packed-joined, packed-over, ready-same}
use Rattle.btree_pack.proofs.packer.put_row.Goals as goal

pub returns-in_default-clause-packed : goal.returns-in_default-clause-packed
returns-in_default-clause-packed c =
    packed-joined c.args.rows.now c.take.new.self c.args.leaves.now (row_of c.args.row.now) c.in_ok-group.ensures.same
    (subst (HasTaken c.args.rows.now c.take.new.self (row_of c.args.row.now)) c.in_default.is c.in_ok-group.ensures.taken)

pub returns-clause-rows : goal.returns-clause-rows
returns-clause-rows c = ready-same c.take.new.self c.bring.new.rows c.in_ok-bring.ensures.rows c.in_ok-group.ensures.ready

pub returns-clause-packed : goal.returns-clause-packed
returns-clause-packed c =
    let e = c.in_ok-group.ensures in
    let b = c.in_ok-bring.ensures in
    packed-over c.args.rows.now c.take.new.self c.bring.new.rows c.args.leaves.now c.bring.new.self (row_of c.args.row.now) c.in-Some.group e.same
    (subst (HasTaken c.args.rows.now c.take.new.self (row_of c.args.row.now)) c.in-Some.is e.taken)
    (subst (λ o. IfSome o (IsDone c.take.new.self)) c.in-Some.is e.done) b.brought b.rows
