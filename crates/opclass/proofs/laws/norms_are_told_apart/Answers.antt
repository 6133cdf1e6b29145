use Rattle.opclass.proofs.Norms.{norms_apart}
use Rattle.opclass.proofs.laws.norms_are_told_apart.Goals as goal

pub returns : goal.returns
returns c = norms_apart
