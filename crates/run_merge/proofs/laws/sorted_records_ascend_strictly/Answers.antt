use Rattle.run_merge.proofs.Sorting.{sorted_strictly}
use Rattle.run_merge.proofs.laws.sorted_records_ascend_strictly.Goals as goal

pub returns : goal.returns
returns c = sorted_strictly
