use Rattle.std.proofs.Common.{◌-◌, length}
use Rattle.run_merge.proofs.Heaping.{Sinks}
use Rattle.run_merge.proofs.heap.sift_down.Given as goal

abbrev pub invariant-loop-hole : goal.invariant-loop-hole
invariant-loop-hole l = Sinks l.tapes l.initial.heads l.heads l.root l.hole

abbrev pub decreases-loop-hole : goal.decreases-loop-hole
decreases-loop-hole l = length l.heads - l.hole
