use Rattle.posting_tree.proofs.Deltas.{number-before}
use Rattle.posting_tree.proofs.ReadSegments.{before-number}
use Rattle.posting_tree.proofs.laws.numbers_are_ordered_as_pointers.Goals as goal

pub returns : goal.returns
returns c p q sp sq = (number-before p q sp sq, before-number p q sp sq)
