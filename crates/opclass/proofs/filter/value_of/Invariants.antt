use Rattle.std.proofs.Common.{◌≡◌, length}
use Rattle.opclass.specs.Filter.{value_of}
use Rattle.opclass.proofs.filter.value_of.Given as goal

abbrev pub invariant-loop-columns : goal.invariant-loop-columns
invariant-loop-columns l = value_of l.columns l.values l.column ≡ value_of l.fn.columns l.fn.values l.column

abbrev pub decreases-loop-columns : goal.decreases-loop-columns
decreases-loop-columns l = length l.columns
