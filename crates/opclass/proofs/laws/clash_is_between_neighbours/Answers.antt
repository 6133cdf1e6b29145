use Rattle.opclass.proofs.KeyOrder.{clash_between}
use Rattle.opclass.proofs.laws.clash_is_between_neighbours.Goals as goal

pub returns : goal.returns
returns c = clash_between
