use Rattle.std.proofs.Common.{◌≡◌, ◌+◌, length}
use Rattle.tuple_data.specs.Data.{data_from, data_of}
use Rattle.tuple_data.proofs.data.data_size.Given as goal

abbrev pub invariant-loop-kinds : goal.invariant-loop-kinds
invariant-loop-kinds l = l.end + length (data_from l.end l.kinds l.values) ≡ length (data_of l.fn.kinds l.fn.values)

abbrev pub decreases-loop-kinds : goal.decreases-loop-kinds
decreases-loop-kinds l = length l.kinds
