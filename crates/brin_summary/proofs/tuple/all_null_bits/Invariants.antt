use Rattle.std.proofs.Common.{◌≡◌, drop}
use Rattle.brin_summary.specs.Pass.{bits_behind, low_nulls}
use Rattle.brin_summary.proofs.tuple.all_null_bits.Given as goal

abbrev pub invariant-loop-at : goal.invariant-loop-at
invariant-loop-at l = l.bits ≡ bits_behind (drop l.at (low_nulls l.bounds)) l.behind
