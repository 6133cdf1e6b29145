use Rattle.brin_summary.proofs.Bounds.{rows_within}
use Rattle.brin_summary.proofs.laws.rows_lie_within.Goals as goal

pub returns : goal.returns
returns c = rows_within
