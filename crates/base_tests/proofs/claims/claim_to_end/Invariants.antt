use Rattle.std.proofs.Common.{◌≡◌, ◌+◌, ◌-◌, length}
use Rattle.block_claim.specs.Calls.{IsSeatOf}
use Rattle.base_tests.proofs.claims.claim_to_end.Given as goal

abbrev pub invariant-loop-seat : goal.invariant-loop-seat
invariant-loop-seat l = record {
  same : IsSeatOf l.scan l.seat;
  share : l.seat.view.share ≡ l.initial.seat.view.share;
}

abbrev pub decreases-loop-seat : goal.decreases-loop-seat
decreases-loop-seat l = (l.scan.blocks + l.scan.seats) - length l.seat.view.claims
