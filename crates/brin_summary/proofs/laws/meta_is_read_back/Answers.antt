use Rattle.brin_summary.proofs.PageReading.{meta_back}
use Rattle.brin_summary.proofs.laws.meta_is_read_back.Goals as goal

pub returns : goal.returns
returns c = meta_back
