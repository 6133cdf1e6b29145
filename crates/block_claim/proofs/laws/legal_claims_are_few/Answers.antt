use Rattle.block_claim.proofs.LegalLaws.{few}
use Rattle.block_claim.proofs.laws.legal_claims_are_few.Goals as goal

pub returns : goal.returns
returns c = few
