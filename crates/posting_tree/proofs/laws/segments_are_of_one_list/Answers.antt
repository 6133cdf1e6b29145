use Rattle.posting_tree.proofs.OneList.{segments-one}
use Rattle.posting_tree.proofs.laws.segments_are_of_one_list.Goals as goal

pub returns : goal.returns
returns c = segments-one
