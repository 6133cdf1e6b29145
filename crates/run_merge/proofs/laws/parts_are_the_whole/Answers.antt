use Rattle.run_merge.proofs.Parts.{parts_whole}
use Rattle.run_merge.proofs.laws.parts_are_the_whole.Goals as goal

pub returns : goal.returns
returns c = λ order records cuts parts storable up long each. parts_whole order records storable cuts up parts long each
