use Rattle.run_merge.proofs.Sorting.{given_in_place}
use Rattle.run_merge.proofs.laws.ordered_are_given_in_place.Goals as goal

pub returns : goal.returns
returns c = given_in_place
