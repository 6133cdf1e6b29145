use Rattle.block_claim.proofs.LegalLaws.{each_once}
use Rattle.block_claim.proofs.laws.each_block_is_claimed_once.Goals as goal

pub returns : goal.returns
returns c = each_once
