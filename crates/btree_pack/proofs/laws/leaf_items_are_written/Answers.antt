use Rattle.btree_pack.proofs.NodePages.{leaf_items_written}
use Rattle.btree_pack.proofs.laws.leaf_items_are_written.Goals as goal

pub returns : goal.returns
returns c = leaf_items_written
