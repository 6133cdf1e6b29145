use Rattle.std.proofs.Common.{◌≡◌, drop}
use Rattle.tuple_data.specs.Nulls.{null_bits}
use Rattle.tuple_data.proofs.nulls.null_bits.Given as goal

abbrev pub invariant-loop-at : goal.invariant-loop-at
invariant-loop-at l = l.bits ≡ null_bits (drop l.at l.values)
