use Rattle.btree_pack.proofs.Retelling.{levels_are_told_by_groups}
use Rattle.btree_pack.proofs.key_bounds.levels_are_told_by_groups.Goals as goal

pub returns : goal.returns
returns c = levels_are_told_by_groups
