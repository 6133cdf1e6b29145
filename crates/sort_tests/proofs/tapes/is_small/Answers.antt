use Rattle.std.proofs.Common.{◌≡◌, ◌≤◌, arith, length, List, refl}
use Rattle.std.specs.Prelude.{All, sum_by}
use Rattle.opclass.specs.declared.spec.SortPart.{SortPart}
use Rattle.opclass.specs.Norm.{IsKeyValue}
use Rattle.shared_tape.specs.declared.stored.Record.{Record}
use Rattle.shared_tape.specs.Stored.{IsStorable, IsPointer}
use Rattle.shared_tape.specs.Laws.{value_room}
use Rattle.shared_tape.proofs.Lengths.{stored_short}
use Rattle.sort_tests.proofs.tapes.is_small.Goals as goal

-- few and short values
storable : (order : List SortPart) (row : Record) → length order ≡ length row.keys → All IsKeyValue row.keys → All IsKeyValue row.extra → IsPointer row.ptr
    → sum_by value_room row.keys ≤ 100000 → sum_by value_room row.extra ≤ 100000 → IsStorable order row
storable order row columns keys extra pointer short others = record {
  keys = record { columns = columns; each = keys };
  extra = extra;
  pointer = pointer;
  order_fits = omega (arith, (stored_short order row).0);
  extra_fits = omega (arith, (stored_short order row).1);
}

pub returns : goal.returns
returns c small =
    storable c.args.order.now c.args.row.now (omega (arith, c.if-len.false))
    (rw c.as_slice.ensures at (c.if-not-are_small.ensures.values refl)) (rw c.as_slice-2.ensures at (c.are_small-2.ensures.values small))
    (omega arith, omega arith) (rw c.as_slice.ensures at (c.if-not-are_small.ensures.short refl))
    (rw c.as_slice-2.ensures at (c.are_small-2.ensures.short small))
