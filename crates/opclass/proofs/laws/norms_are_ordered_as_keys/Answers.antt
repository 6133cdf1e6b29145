use Rattle.opclass.proofs.Norms.{norms_ordered}
use Rattle.opclass.proofs.laws.norms_are_ordered_as_keys.Goals as goal

pub returns : goal.returns
returns c = norms_ordered
