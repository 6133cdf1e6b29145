use Rattle.std.proofs.Common.{length}
use Rattle.build_leader.proofs.scan.refill.clear.Given as goal

abbrev pub decreases-values : goal.decreases-values
decreases-values l = length l.values
