use Rattle.std.proofs.Common.{All}
use Rattle.std.specs.List.Sorted.{IsPermutation}
use Rattle.run_merge.specs.Heads.{IsHead, IsHeapFrom}
use Rattle.run_merge.proofs.heap.make_heap.Given as goal

abbrev pub invariant-loop-root : goal.invariant-loop-root
invariant-loop-root l = record {
  moved : IsPermutation l.initial.heads l.heads;
  each : All (IsHead l.tapes) l.heads;
  heap : IsHeapFrom l.tapes l.heads l.root;
}

abbrev pub decreases-loop-root : goal.decreases-loop-root
decreases-loop-root l = l.root
