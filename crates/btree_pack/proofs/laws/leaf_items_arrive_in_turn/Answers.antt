use Rattle.btree_pack.proofs.Grouping.{leaf_items_in_turn}
use Rattle.btree_pack.proofs.laws.leaf_items_arrive_in_turn.Goals as goal

pub returns : goal.returns
returns c = leaf_items_in_turn
