use Rattle.std.proofs.Common.{subst}
use Rattle.std.specs.Prelude.{IfSome}
use Rattle.btree_pack.specs.Pass.Taken.{HasTakenLast, IsDone}
use Rattle.btree_pack.proofs.Puts.{packed-last, packed-none}
use Rattle.btree_pack.proofs.packer.put_last.Goals as goal

pub returns-in_default-clause-packed : goal.returns-in_default-clause-packed
returns-in_default-clause-packed c =
    packed-none c.args.rows.now c.take_last.new.self c.args.leaves.now
    (subst (HasTakenLast c.args.rows.now c.take_last.new.self) c.in_default.is c.in_ok-group.ensures.taken)

pub returns-clause-packed : goal.returns-clause-packed
returns-clause-packed c =
    let e = c.in_ok-group.ensures in
    let b = c.in_ok-bring.ensures in
    packed-last c.args.rows.now c.take_last.new.self c.args.leaves.now c.bring.new.self c.in-Some.group e.same
    (subst (HasTakenLast c.args.rows.now c.take_last.new.self) c.in-Some.is e.taken)
    (subst (λ o. IfSome o (IsDone c.take_last.new.self)) c.in-Some.is e.done) b.brought
