use Rattle.std.proofs.Common.{◌≡◌, length}
use Rattle.tuple_data.specs.Nulls.{has_variable}
use Rattle.tuple_data.proofs.nulls.has_variable.Given as goal

abbrev pub invariant-loop-kinds : goal.invariant-loop-kinds
invariant-loop-kinds l = has_variable l.kinds l.values ≡ has_variable l.fn.kinds l.fn.values

abbrev pub decreases-loop-kinds : goal.decreases-loop-kinds
decreases-loop-kinds l = length l.kinds
