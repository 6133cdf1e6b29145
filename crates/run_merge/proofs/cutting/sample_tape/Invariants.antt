use Rattle.std.proofs.Common.{◌≡◌, ◌++◌, take}
use Rattle.run_merge.specs.Cutting.{tape_samples}
use Rattle.run_merge.specs.Pass.{bytes_of, bytes_sampled}
use Rattle.run_merge.proofs.cutting.sample_tape.Given as goal

abbrev pub invariant-loop-run : goal.invariant-loop-run
invariant-loop-run l = bytes_of l.samples.items ≡ bytes_of l.initial.samples.items ++ tape_samples (bytes_sampled l.sampled)
    (take l.run l.tape)
