use Rattle.std.proofs.Common.{◌≡◌, length}
use Rattle.opclass.specs.Order.{key_cmp}
use Rattle.opclass.proofs.order.cmp_values.Given as goal

abbrev pub invariant-loop-a : goal.invariant-loop-a
invariant-loop-a l = key_cmp l.parts l.a l.b ≡ key_cmp l.fn.parts l.fn.a l.fn.b

abbrev pub decreases-loop-a : goal.decreases-loop-a
decreases-loop-a l = length l.a
