use Rattle.btree_pack.proofs.Numbers.{numbered_in_turn}
use Rattle.btree_pack.proofs.laws.pages_are_numbered_as_born.Goals as goal

pub returns : goal.returns
returns c = numbered_in_turn
