use Rattle.std.proofs.Common.{length}
use Rattle.shared_tape.proofs.Texts.{IsPutTo}
use Rattle.shared_tape.proofs.text.put_up_to_end.Given as goal

abbrev pub invariant-loop-left : goal.invariant-loop-left
invariant-loop-left l = IsPutTo l.mark l.fn.bytes l.fn.text.items l.text.items l.left

abbrev pub decreases-loop-left : goal.decreases-loop-left
decreases-loop-left l = length l.left
