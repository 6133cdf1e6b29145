use Rattle.shared_tape.proofs.Standing.{stored_read_back}
use Rattle.shared_tape.proofs.laws.stored_is_read_back.Goals as goal

pub returns : goal.returns
returns c = stored_read_back
