use Rattle.std.proofs.Common.{◌≡◌, ◌*◌, ◌++◌}
use Rattle.std.specs.List.{slice_get, filter_map, range_with_len}
use Rattle.run_merge.specs.Pass.{bytes_of, bytes_sampled}
use Rattle.run_merge.proofs.cutting.sample_run.Given as goal

abbrev pub invariant-loop-number : goal.invariant-loop-number
invariant-loop-number l =
    bytes_of l.samples.items
    ≡ bytes_of l.initial.samples.items ++ filter_map (λ number. slice_get (bytes_sampled l.sampled l.run) (number * 64))
    (range_with_len 0 l.number)
