use Rattle.brin_summary.proofs.PageReading.{entries_back}
use Rattle.brin_summary.proofs.laws.entries_are_read_back.Goals as goal

pub returns : goal.returns
returns c = entries_back
