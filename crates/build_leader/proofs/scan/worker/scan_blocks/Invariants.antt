use Rattle.std.proofs.Common.{◌≡◌, ◌+◌, ◌-◌, ◌*◌, ◌^◌, ◌≤◌}
use Rattle.std.specs.List.{range_with_len}
use Rattle.build_leader.specs.Scanning.{IsSameWorker, IsWorker, TakesBlocks}
use Rattle.build_leader.proofs.scan.worker.scan_blocks.Given as goal

abbrev pub invariant-loop-block : goal.invariant-loop-block
invariant-loop-block l = record {
  worker : IsWorker l.reader l.scan l.share;
  same : IsSameWorker l.initial.share l.share;
  claims : l.share.seat.view.claims ≡ l.initial.share.seat.view.claims;
  rows : l.share.rows ≤ l.initial.share.rows + (l.block - l.first) * 2 ^ 16;
  taken : TakesBlocks l.reader l.heap (range_with_len l.first (l.block - l.first)) l.initial.share l.share;
}
