use Rattle.std.proofs.Common.{◌↔◌, length}
use Rattle.btree_item.specs.Item.{PointersAscend}
use Rattle.btree_item.proofs.item_reading.ascend.Given as goal

abbrev pub invariant-loop-ptrs : goal.invariant-loop-ptrs
invariant-loop-ptrs l = PointersAscend l.fn.ptrs ↔ PointersAscend l.ptrs

abbrev pub decreases-loop-ptrs : goal.decreases-loop-ptrs
decreases-loop-ptrs l = length l.ptrs
