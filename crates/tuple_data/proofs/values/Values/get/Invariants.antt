use Rattle.std.proofs.Common.{◌≡◌, drop}
use Rattle.tuple_data.proofs.values.Values.get.Given as goal

abbrev pub invariant-loop : goal.invariant-loop
invariant-loop l = l.left ≡ drop l.counter l.self
