use Rattle.btree_pack.proofs.FileBlocks.{file_has_the_nodes}
use Rattle.btree_pack.proofs.laws.file_has_the_nodes.Goals as goal

pub returns : goal.returns
returns c = file_has_the_nodes
