use Rattle.btree_pack.proofs.Contents.{levels_name}
use Rattle.btree_pack.proofs.laws.each_page_is_named_once.Goals as goal

pub returns : goal.returns
returns c = levels_name
