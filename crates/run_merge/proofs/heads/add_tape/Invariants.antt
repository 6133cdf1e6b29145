use Rattle.std.proofs.Common.{◌≡◌, ◌++◌, [], All, take, slice_index_or}
use Rattle.std.specs.Option.{option_copied}
use Rattle.run_merge.specs.Heads.{IsHead, left_of}
use Rattle.run_merge.specs.Pass.{between_of}
use Rattle.run_merge.proofs.heads.add_tape.Given as goal

abbrev pub invariant-loop-run : goal.invariant-loop-run
invariant-loop-run l = record {
  each : All (IsHead l.tapes) l.heads.items;
  left : left_of l.tapes l.heads.items
      ≡ left_of l.tapes l.initial.heads.items ++ between_of (option_copied l.between.low)
      (option_copied l.between.high) (take l.run (slice_index_or l.tapes l.tape []));
}
