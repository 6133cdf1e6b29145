use Rattle.std.proofs.Common.{length}
use Rattle.build_leader.proofs.scan.refill.+copy_values.Given as goal

abbrev pub decreases-copy_values : goal.decreases-copy_values
decreases-copy_values l = length l.places.now
