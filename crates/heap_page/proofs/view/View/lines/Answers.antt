use Rattle.std.proofs.Common.{arith}
use Rattle.heap_page.proofs.Sound.{most-lines}
use Rattle.heap_page.proofs.view.View.lines.Goals as goal

pub returns-clause-most : goal.returns-clause-most
returns-clause-most c = omega (arith, c.lines_of.ensures, most-lines c.self.inside.page c.self.inside.columns c.self.invariant)
