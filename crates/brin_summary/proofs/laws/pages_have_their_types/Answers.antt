use Rattle.brin_summary.proofs.PageReading.{their_types}
use Rattle.brin_summary.proofs.laws.pages_have_their_types.Goals as goal

pub returns : goal.returns
returns c = their_types
