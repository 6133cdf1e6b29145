use Rattle.std.proofs.Common.{length}
use Rattle.shared_tape.specs.Pass.{IsReadTo}
use Rattle.shared_tape.proofs.refill.read_extra.Given as goal

abbrev pub invariant-loop-left : goal.invariant-loop-left
invariant-loop-left l = IsReadTo l.fn.bytes l.extra l.left

abbrev pub decreases-loop-left : goal.decreases-loop-left
decreases-loop-left l = length l.left
