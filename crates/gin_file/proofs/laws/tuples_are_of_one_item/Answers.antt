use Rattle.gin_file.proofs.OneItem.{one-item}
use Rattle.gin_file.proofs.laws.tuples_are_of_one_item.Goals as goal

pub returns : goal.returns
returns c = one-item
