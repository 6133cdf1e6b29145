use Rattle.std.proofs.Common.{length}
use Rattle.brin_summary.proofs.summary.+add_values.Given as goal

abbrev pub decreases-add_values : goal.decreases-add_values
decreases-add_values l = length l.values.now
