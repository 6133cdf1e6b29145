use Rattle.pg_index.proofs.Determined.{same_of_run}
use Rattle.pg_index.proofs.laws.outcome_is_determined.Goals as goal

pub returns : goal.returns
returns c = same_of_run
