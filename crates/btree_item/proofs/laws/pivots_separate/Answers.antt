use Rattle.btree_item.proofs.Separation.{pivots_separate}
use Rattle.btree_item.proofs.laws.pivots_separate.Goals as goal

pub returns : goal.returns
returns c = pivots_separate
