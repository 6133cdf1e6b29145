use Rattle.block_claim.proofs.Doubling.{first_chunk}
use Rattle.block_claim.proofs.laws.first_chunk_is_a_power_of_two.Goals as goal

pub returns : goal.returns
returns c = first_chunk
