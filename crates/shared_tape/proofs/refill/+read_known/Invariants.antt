use Rattle.std.proofs.Common.{length}
use Rattle.shared_tape.proofs.refill.+read_known.Given as goal

abbrev pub decreases-read_known : goal.decreases-read_known
decreases-read_known l = length l.extra.now
