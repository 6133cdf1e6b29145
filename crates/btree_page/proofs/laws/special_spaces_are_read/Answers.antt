use Rattle.btree_page.proofs.SpaceReading.{space-read}
use Rattle.btree_page.proofs.laws.special_spaces_are_read.Goals as goal

pub returns : goal.returns
returns c = space-read
