use Rattle.heap_page.proofs.Sound.{sound-item, sound-settled}
use Rattle.heap_page.proofs.laws.items_are_whole.Goals as goal

pub returns-clause-inside : goal.returns-clause-inside
returns-clause-inside c page columns item sound normal = (sound-item page columns item sound normal).0

pub returns-clause-settled : goal.returns-clause-settled
returns-clause-settled c = sound-settled
