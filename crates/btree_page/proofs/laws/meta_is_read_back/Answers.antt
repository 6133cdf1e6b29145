use Rattle.btree_page.proofs.MetaReading.{meta_back}
use Rattle.btree_page.proofs.laws.meta_is_read_back.Goals as goal

pub returns : goal.returns
returns c = meta_back
