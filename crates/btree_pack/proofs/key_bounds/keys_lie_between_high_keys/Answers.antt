use Rattle.btree_pack.proofs.KeyBounds.{keys_lie_between}
use Rattle.btree_pack.proofs.key_bounds.keys_lie_between_high_keys.Goals as goal

pub returns : goal.returns
returns c = keys_lie_between
