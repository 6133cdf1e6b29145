use Rattle.std.proofs.Common.{◌≡◌, take}
use Rattle.run_merge.specs.Cutting.{all_samples}
use Rattle.run_merge.specs.Pass.{bytes_of, bytes_sampled}
use Rattle.run_merge.proofs.cutting.take_samples.Given as goal

abbrev pub invariant-loop-tape : goal.invariant-loop-tape
invariant-loop-tape l = bytes_of l.samples.items ≡ all_samples (bytes_sampled l.sampled) (take l.tape l.tapes)
