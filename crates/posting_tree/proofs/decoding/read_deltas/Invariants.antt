use Rattle.std.proofs.Common.{◌<◌, ◌^◌, length}
use Rattle.posting_tree.proofs.ReadDeltas.{DeltasRead}
use Rattle.posting_tree.proofs.decoding.read_deltas.Given as goal

abbrev pub invariant-loop-left : goal.invariant-loop-left
invariant-loop-left l = record {
  read : DeltasRead l.number l.bytes l.last l.left l.fn.ptrs.items l.ptrs.items;
  small : l.last < 2 ^ 44;
}

abbrev pub decreases-loop-left : goal.decreases-loop-left
decreases-loop-left l = length l.left
