use Rattle.std.proofs.Common.{◌≡◌, length}
use Rattle.opclass.specs.Order.{key_cmp}
use Rattle.tuple_data.proofs.order.cmp_values.Given as goal

abbrev pub invariant-loop-first : goal.invariant-loop-first
invariant-loop-first l = key_cmp l.left l.firsts l.seconds ≡ key_cmp l.parts l.a l.b

abbrev pub decreases-loop-first : goal.decreases-loop-first
decreases-loop-first l = length l.firsts
