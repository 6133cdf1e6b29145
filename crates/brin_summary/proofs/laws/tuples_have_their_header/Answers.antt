use Rattle.brin_summary.proofs.RangeTuples.{have_header}
use Rattle.brin_summary.proofs.laws.tuples_have_their_header.Goals as goal

pub returns : goal.returns
returns c = have_header
