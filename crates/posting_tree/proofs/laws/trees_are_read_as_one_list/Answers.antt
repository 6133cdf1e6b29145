use Rattle.posting_tree.proofs.OneList.{readings-one}
use Rattle.posting_tree.proofs.laws.trees_are_read_as_one_list.Goals as goal

pub returns : goal.returns
returns c = readings-one
