use Rattle.std.proofs.Common.{◌≡◌, ◌++◌, length}
use Rattle.tuple_data.proofs.values.Values.copy.Given as goal

abbrev pub invariant-loop-value : goal.invariant-loop-value
invariant-loop-value l = l.values.items ++ l.left ≡ l.self

abbrev pub decreases-loop-value : goal.decreases-loop-value
decreases-loop-value l = length l.left
