use Rattle.brin_summary.proofs.RangeTuples.{have_tuples}
use Rattle.brin_summary.proofs.laws.summaries_have_tuples.Goals as goal

pub returns : goal.returns
returns c = have_tuples
