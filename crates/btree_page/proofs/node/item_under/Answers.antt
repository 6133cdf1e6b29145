use Rattle.std.proofs.Common.{refl}
use Rattle.btree_page.proofs.NodeReading.{item_at-none}
use Rattle.btree_page.proofs.node.item_under.Goals as goal

pub returns-in-None : goal.returns-in-None
returns-in-None c = item_at-none c.args.page.now c.args.line (c.in-None.ensures.refused.0 refl)
