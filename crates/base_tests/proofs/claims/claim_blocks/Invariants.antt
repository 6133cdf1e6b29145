use Rattle.std.proofs.Common.{◌≡◌}
use Rattle.block_claim.specs.Calls.{IsSeatOf}
use Rattle.base_tests.proofs.claims.claim_blocks.Given as goal

abbrev pub invariant-loop-first : goal.invariant-loop-first
invariant-loop-first g l = record {
  same : IsSeatOf l.scan l.seat;
  share : l.seat.view.share ≡ l.initial.seat.view.share;
}
