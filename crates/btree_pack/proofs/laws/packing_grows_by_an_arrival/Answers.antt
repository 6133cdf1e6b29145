use Rattle.btree_pack.proofs.Finishing.{packing_grows}
use Rattle.btree_pack.proofs.laws.packing_grows_by_an_arrival.Goals as goal

pub returns : goal.returns
returns c = packing_grows
