use Rattle.opclass.proofs.KeyOrder.{key_cmp-first_difference}
use Rattle.opclass.proofs.laws.first_difference_decides.Goals as goal

pub returns : goal.returns
returns c = key_cmp-first_difference
