use Rattle.std.proofs.Common.{length}
use Rattle.tuple_data.proofs.ReadList.{ReadsSoFar}
use Rattle.tuple_data.proofs.values.Values.of.Given as goal

abbrev pub invariant-loop-left : goal.invariant-loop-left
invariant-loop-left l = ReadsSoFar l.kinds l.present l.bytes l.left l.bits l.rest

abbrev pub decreases-loop-left : goal.decreases-loop-left
decreases-loop-left l = length l.left
