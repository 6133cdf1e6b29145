use Rattle.std.proofs.Common.{◌≡◌, All, take}
use Rattle.std.specs.Option.{option_copied}
use Rattle.run_merge.specs.Heads.{IsHead, left_of}
use Rattle.run_merge.specs.Pass.{all_between}
use Rattle.run_merge.proofs.heads.heads_between.Given as goal

abbrev pub invariant-loop-tape : goal.invariant-loop-tape
invariant-loop-tape l = record {
  each : All (IsHead l.tapes) l.heads.items;
  left : left_of l.tapes l.heads.items ≡ all_between (option_copied l.between.low) (option_copied l.between.high)
      (take l.tape l.tapes);
}
