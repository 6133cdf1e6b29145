use Rattle.std.proofs.Common.{length}
use Rattle.brin_summary.proofs.Pointers.{PointsSoFar}
use Rattle.brin_summary.proofs.revmap.tuple_pointers.Given as goal

abbrev pub invariant-loop-left : goal.invariant-loop-left
invariant-loop-left l = PointsSoFar l.first l.sizes l.block l.left l.pointers.items

abbrev pub decreases-loop-left : goal.decreases-loop-left
decreases-loop-left l = length l.left
