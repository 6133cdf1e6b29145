use Rattle.btree_pack.proofs.Towers.{tower_step}
use Rattle.btree_pack.proofs.laws.tower_grows_by_a_step.Goals as goal

pub returns : goal.returns
returns c = tower_step
