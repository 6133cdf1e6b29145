use Rattle.btree_pack.proofs.Grouping.{groups_hold_rows}
use Rattle.btree_pack.proofs.laws.groups_hold_the_rows.Goals as goal

pub returns : goal.returns
returns c = groups_hold_rows
