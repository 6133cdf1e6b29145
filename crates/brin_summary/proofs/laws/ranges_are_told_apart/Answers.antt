use Rattle.brin_summary.proofs.OneRange.{one_range}
use Rattle.brin_summary.proofs.laws.ranges_are_told_apart.Goals as goal

pub returns : goal.returns
returns c = one_range
