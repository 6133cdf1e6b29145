use Rattle.build_leader.proofs.Determined.{same_outcome}
use Rattle.build_leader.proofs.laws.build_outcome_is_determined.Goals as goal

pub returns : goal.returns
returns c = same_outcome
