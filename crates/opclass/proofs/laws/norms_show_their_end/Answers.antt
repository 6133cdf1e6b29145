use Rattle.opclass.proofs.Norms.{norms_show_end}
use Rattle.opclass.proofs.laws.norms_show_their_end.Goals as goal

pub returns : goal.returns
returns c = norms_show_end
