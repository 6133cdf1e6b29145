use Rattle.btree_pack.proofs.NodeBlocks.{nodes_have_the_blocks}
use Rattle.btree_pack.proofs.laws.blocks_are_exact.Goals as goal

pub returns : goal.returns
returns c = nodes_have_the_blocks
