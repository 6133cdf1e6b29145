use Rattle.std.proofs.Common.{◌≡◌, ◌<◌, ◌≤◌, ◌-◌, length, slice_index_or}
use Rattle.run_merge.specs.Heads.{no_run}
use Rattle.run_merge.specs.Pass.{left_in}
use Rattle.run_merge.proofs.ordered_runs.skip_empty.Given as goal

abbrev pub invariant-loop-run : goal.invariant-loop-run
invariant-loop-run l = record {
  within : l.run ≤ length l.runs;
  there : l.run < length l.runs → l.at ≤ length (slice_index_or l.runs l.run no_run).records;
  past : l.run ≡ length l.runs → l.at ≡ 0;
  left : left_in l.runs l.run l.at ≡ left_in l.runs l.initial.run l.initial.at;
}

abbrev pub decreases-loop-run : goal.decreases-loop-run
decreases-loop-run l = length l.runs - l.run
