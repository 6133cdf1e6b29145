use Rattle.run_merge.proofs.Sorting.{sorted_one}
use Rattle.run_merge.proofs.laws.sorted_records_are_one.Goals as goal

pub returns : goal.returns
returns c = sorted_one
