use Rattle.btree_pack.proofs.Finishing.{finished_packing_is_the_file}
use Rattle.btree_pack.proofs.laws.finished_packing_is_the_file.Goals as goal

pub returns : goal.returns
returns c = finished_packing_is_the_file
