use Rattle.btree_pack.proofs.LeafKeys.{leaves_have_the_keys}
use Rattle.btree_pack.proofs.key_bounds.leaves_have_the_keys.Goals as goal

pub returns : goal.returns
returns c = leaves_have_the_keys
