use Rattle.std.proofs.Common.{◌≡◌, length}
use Rattle.tuple_data.specs.Data.{data_of}
use Rattle.tuple_data.proofs.PutPass.{PutsSoFar}
use Rattle.tuple_data.proofs.data.put_pieces.Given as goal

abbrev pub invariant-loop-kinds : goal.invariant-loop-kinds
invariant-loop-kinds l =
    (l.start ≡ length l.fn.out.items) × PutsSoFar l.fn.out.items l.out.items (data_of l.fn.kinds l.fn.values) l.kinds l.values

abbrev pub decreases-loop-kinds : goal.decreases-loop-kinds
decreases-loop-kinds l = length l.kinds
