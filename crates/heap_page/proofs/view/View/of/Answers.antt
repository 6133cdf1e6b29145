use Rattle.heap_page.proofs.Sound.{sound-settled}
use Rattle.heap_page.proofs.view.View.of.Goals as goal

pub returns-clause-settled : goal.returns-clause-settled
returns-clause-settled c = rw c.same_page.ensures (sound-settled c.args.page.now c.args.columns c.requires)
