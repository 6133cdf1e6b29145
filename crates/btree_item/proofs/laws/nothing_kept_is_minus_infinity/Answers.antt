use Rattle.btree_item.proofs.Sizes.{minus_infinity-image}
use Rattle.btree_item.proofs.laws.nothing_kept_is_minus_infinity.Goals as goal

pub returns : goal.returns
returns c = minus_infinity-image
