use Rattle.btree_pack.proofs.Grouping.{leaf_items_are_groups}
use Rattle.btree_pack.proofs.laws.leaf_items_are_the_groups.Goals as goal

pub returns : goal.returns
returns c = leaf_items_are_groups
