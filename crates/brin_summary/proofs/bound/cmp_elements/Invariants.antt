use Rattle.std.proofs.Common.{◌≡◌, length}
use Rattle.std.specs.Cmp.Lexicographic.{slice_cmp}
use Rattle.opclass.specs.Order.{elem_cmp}
use Rattle.brin_summary.proofs.bound.cmp_elements.Given as goal

abbrev pub invariant-loop-a : goal.invariant-loop-a
invariant-loop-a l = slice_cmp elem_cmp l.a l.b ≡ slice_cmp elem_cmp l.fn.a l.fn.b

abbrev pub decreases-loop-a : goal.decreases-loop-a
decreases-loop-a l = length l.a
