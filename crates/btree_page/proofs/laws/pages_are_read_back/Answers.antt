use Rattle.btree_page.proofs.NodeReading.{nodes-read}
use Rattle.btree_page.proofs.laws.pages_are_read_back.Goals as goal

pub returns : goal.returns
returns c = nodes-read
