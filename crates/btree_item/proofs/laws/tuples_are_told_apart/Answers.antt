use Rattle.btree_item.proofs.IndexItems.{index_tuples_told_apart}
use Rattle.btree_item.proofs.laws.tuples_are_told_apart.Goals as goal

pub returns : goal.returns
returns c = index_tuples_told_apart
