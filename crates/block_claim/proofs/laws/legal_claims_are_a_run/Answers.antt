use Rattle.block_claim.proofs.Runs.{run}
use Rattle.block_claim.proofs.laws.legal_claims_are_a_run.Goals as goal

pub returns : goal.returns
returns c = run
