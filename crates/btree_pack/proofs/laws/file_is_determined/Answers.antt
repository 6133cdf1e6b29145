use Rattle.btree_pack.proofs.FileBlocks.{file_is_determined}
use Rattle.btree_pack.proofs.laws.file_is_determined.Goals as goal

pub returns : goal.returns
returns c = file_is_determined
