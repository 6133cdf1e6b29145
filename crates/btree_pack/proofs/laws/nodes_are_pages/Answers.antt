use Rattle.btree_pack.proofs.NodePages.{nodes_are_pages}
use Rattle.btree_pack.proofs.laws.nodes_are_pages.Goals as goal

pub returns : goal.returns
returns c = nodes_are_pages
