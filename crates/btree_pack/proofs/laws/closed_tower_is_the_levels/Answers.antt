use Rattle.btree_pack.proofs.Towers.{close_tower}
use Rattle.btree_pack.proofs.laws.closed_tower_is_the_levels.Goals as goal

pub returns : goal.returns
returns c = close_tower
