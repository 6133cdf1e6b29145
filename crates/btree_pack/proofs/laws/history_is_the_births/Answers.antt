use Rattle.btree_pack.proofs.Numbers.{history_is_births}
use Rattle.btree_pack.proofs.laws.history_is_the_births.Goals as goal

pub returns : goal.returns
returns c = history_is_births
