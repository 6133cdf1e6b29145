use Rattle.btree_pack.proofs.Counter.{numbers_stay}
use Rattle.btree_pack.proofs.laws.numbers_stay.Goals as goal

pub returns : goal.returns
returns c = numbers_stay
