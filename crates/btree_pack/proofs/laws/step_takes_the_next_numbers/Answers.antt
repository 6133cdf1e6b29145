use Rattle.btree_pack.proofs.Counter.{next_numbers}
use Rattle.btree_pack.proofs.laws.step_takes_the_next_numbers.Goals as goal

pub returns : goal.returns
returns c = next_numbers
