use Rattle.std.proofs.Common.{arith, refl}
use Rattle.shared_tape.proofs.Standing.{has_two, first_ends}
use Rattle.shared_tape.proofs.StepsBack.{keys_in_front, order_bytes_at, pieces_at, pointer_left}
use Rattle.shared_tape.proofs.reader.read_record.Goals as goal

pub overflow_add-place : goal.overflow_add-place
overflow_add-place c = omega (arith, first_ends c.args.bytes.now _ c.args.place (has_two _ _ _ _ c.requires) refl)

pub overflow_add-place-2 : goal.overflow_add-place-2
overflow_add-place-2 c = omega (arith, first_ends _ _ _ (has_two _ _ _ _ c.requires) c.counted_at-sorted.ensures)

pub read_extra-requires : goal.read_extra-requires
read_extra-requires c = pieces_at _ _ _ _ _ _ c.requires c.counted_at-sorted.ensures c.counted_at-extra.ensures

pub read_keys-requires : goal.read_keys-requires
read_keys-requires c =
    rw c.as_slice.ensures (keys_in_front _ _ (order_bytes_at _ _ _ _ _ c.requires c.counted_at-sorted.ensures))

pub read_pointer-row-requires : goal.read_pointer-row-requires
read_pointer-row-requires c =
    pointer_left _ _ _ (order_bytes_at _ _ _ _ _ c.requires c.counted_at-sorted.ensures)
    (rw c.as_slice.ensures at c.in_ok-pointer.ensures.left)
