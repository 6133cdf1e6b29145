use Rattle.std.proofs.Common.{◌≡◌, ◌+◌, ◌<◌, ℕ, length, Some}
use Rattle.std.specs.List.{slice_get}
use Rattle.run_merge.specs.Cutting.{cut_at}
use Rattle.run_merge.specs.Pass.{bytes_of}
use Rattle.run_merge.proofs.cutting.choose_cuts.Given as goal

abbrev pub invariant-loop-number : goal.invariant-loop-number
invariant-loop-number l = record {
  count : length l.cuts + 1 ≡ l.number;
  each : (number : ℕ) → number < length l.cuts → slice_get l.cuts number ≡ Some
      (cut_at (bytes_of l.samples) l.parts (number + 1));
}
