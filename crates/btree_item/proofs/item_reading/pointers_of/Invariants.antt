use Rattle.btree_item.proofs.Pointers.{PointersRead}
use Rattle.btree_item.proofs.item_reading.pointers_of.Given as goal

abbrev pub invariant-loop : goal.invariant-loop
invariant-loop l = PointersRead l.count l.counter l.bytes l.left l.ptrs.items
