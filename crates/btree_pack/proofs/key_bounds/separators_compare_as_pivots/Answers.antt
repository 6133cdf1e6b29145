use Rattle.btree_pack.proofs.Separating.{separators_compare}
use Rattle.btree_pack.proofs.key_bounds.separators_compare_as_pivots.Goals as goal

pub returns : goal.returns
returns c = separators_compare
