use Rattle.btree_pack.proofs.Contents.{levels_end}
use Rattle.btree_pack.proofs.laws.the_last_level_is_the_root.Goals as goal

pub returns : goal.returns
returns c = levels_end
