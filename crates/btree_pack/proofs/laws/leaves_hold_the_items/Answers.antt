use Rattle.btree_pack.proofs.Contents.{levels_begin}
use Rattle.btree_pack.proofs.laws.leaves_hold_the_items.Goals as goal

pub returns : goal.returns
returns c = levels_begin
