use Rattle.std.proofs.Common.{rules}
use Rattle.block_claim.specs.Calls.{SeatState}
use Rattle.block_claim.proofs.Lists.{sum_by_place}
use Rattle.base_tests.proofs.claims.claim_in_threads.Goals as goal

pub returns-clause-share : goal.returns-clause-share
returns-clause-share g c = sum_by_place (λ (seat : SeatState). seat.view.share) c.args.seats.now c.for_each_mut.new.s (search rules) (λ i d below. search rules)
