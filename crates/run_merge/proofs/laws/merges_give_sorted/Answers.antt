use Rattle.run_merge.proofs.Sorting.{given_sorted}
use Rattle.run_merge.proofs.laws.merges_give_sorted.Goals as goal

pub returns : goal.returns
returns c = given_sorted
