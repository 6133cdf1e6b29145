use Rattle.std.proofs.Common.{◌+◌, ◌-◌, length}
use Rattle.build_leader.specs.Scanning.{IsBetweenClaims, IsSameWorker}
use Rattle.build_leader.proofs.scan.worker.scan_share.Given as goal

abbrev pub invariant-claims : goal.invariant-claims
invariant-claims g l = record {
  same : IsSameWorker l.initial.share l.share;
  between : IsBetweenClaims l.reader l.heap l.scan l.share;
}

abbrev pub decreases-claims : goal.decreases-claims
decreases-claims g l = (l.scan.blocks + l.scan.seats) - length l.share.seat.view.claims
