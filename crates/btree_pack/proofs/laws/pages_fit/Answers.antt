use Rattle.btree_pack.proofs.Room.{pages_fit}
use Rattle.btree_pack.proofs.laws.pages_fit.Goals as goal

pub returns : goal.returns
returns c = pages_fit
