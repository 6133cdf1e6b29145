use Rattle.brin_summary.proofs.Headers.{told_apart}
use Rattle.brin_summary.proofs.laws.headers_are_told_apart.Goals as goal

pub returns : goal.returns
returns c = told_apart
