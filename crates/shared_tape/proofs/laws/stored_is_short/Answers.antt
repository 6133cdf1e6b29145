use Rattle.shared_tape.proofs.Lengths.{stored_short}
use Rattle.shared_tape.proofs.laws.stored_is_short.Goals as goal

pub returns : goal.returns
returns c = stored_short
