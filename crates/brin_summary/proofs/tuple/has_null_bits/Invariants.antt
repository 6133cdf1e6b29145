use Rattle.std.proofs.Common.{◌≡◌, drop}
use Rattle.brin_summary.specs.Pass.{bits_behind}
use Rattle.brin_summary.proofs.tuple.has_null_bits.Given as goal

abbrev pub invariant-loop-at : goal.invariant-loop-at
invariant-loop-at l = l.bits ≡ bits_behind (drop l.at l.nulls) 0
