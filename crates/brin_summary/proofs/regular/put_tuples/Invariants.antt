use Rattle.std.proofs.Common.{length}
use Rattle.brin_summary.proofs.TuplePages.{PutSoFar}
use Rattle.brin_summary.proofs.regular.put_tuples.Given as goal

abbrev pub invariant-loop-left : goal.invariant-loop-left
invariant-loop-left l = PutSoFar l.kinds l.pages_per_range l.fn.ranges l.fn.sizes l.fn.image l.first l.left l.sizes l.image

abbrev pub decreases-loop-left : goal.decreases-loop-left
decreases-loop-left l = length l.left
