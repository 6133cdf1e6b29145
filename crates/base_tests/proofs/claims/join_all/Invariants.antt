use Rattle.std.proofs.Common.{◌≡◌, ◌+◌, true, sum_by}
use Rattle.block_claim.specs.Calls.{IsSeatOf, is_done}
use Rattle.base_tests.proofs.claims.join_all.Given as goal

abbrev pub invariant-loop-seat : goal.invariant-loop-seat
invariant-loop-seat l = record {
  same : IsSeatOf l.scan l.into;
  done : is_done l.into ≡ true;
  share : l.into.view.share ≡ l.initial.into.view.share + sum_by (λ seat. seat.view.share) l.yielded;
}
