use Rattle.btree_item.proofs.Keeping.{keeps_one_number}
use Rattle.btree_item.proofs.laws.truncation_is_determined.Goals as goal

pub returns : goal.returns
returns c = keeps_one_number
