use Rattle.std.proofs.Common.{◌≡◌, ◌++◌, ◌<◌, length, slice_index}
use Rattle.opclass.specs.Norm.{escaped}
use Rattle.opclass.specs.Pass.{IsInFront}
use Rattle.opclass.proofs.norm.put_escaped.Given as goal

abbrev pub invariant-loop-left : goal.invariant-loop-left
invariant-loop-left l =
    (l.out.items ++ escaped l.left ≡ l.fn.out.items ++ escaped l.fn.bytes) × (0 < length l.left → slice_index l.left 0 ≡ 0)
    × IsInFront l.fn.out.items l.out.items

abbrev pub decreases-loop-left : goal.decreases-loop-left
decreases-loop-left l = length l.left
