-- What holds of records and their bytes, whatever the records are.
use Rattle.std.specs.Prelude.{◌≡◌, ℕ, ◌+◌, ◌*◌, ◌<◌, ◌≤◌, List, ◌++◌, length, All, sum_by}
use Rattle.std.specs.Cmp.{IsTotalOrder}
use Rattle.std.specs.Ordering.{ordering_then, nat_cmp}
use Rattle.opclass.specs.declared.spec.SortPart.{SortPart}
use Rattle.opclass.specs.declared.value.KeyVal.{KeyVal}
use Rattle.opclass.specs.declared.value.KeyVal.TheVariants.{Nil, Num, Raw, Items}
use Rattle.opclass.specs.Order.{bytes_cmp}
use Rattle.shared_tape.specs.declared.stored.Record.{Record}
use Rattle.shared_tape.specs.Stored.{record_cmp, order_bytes, extra_bytes, stored, IsStorable}
use Rattle.shared_tape.specs.Reading.{record_at}
use Rattle.shared_tape.specs.Places.{head_of}

-- records have a total order
abbrev pub RecordsAreOrdered : Type 0
RecordsAreOrdered = (order : List SortPart) → IsTotalOrder (record_cmp order)

-- the order of order bytes as unsigned bytes is the order of the records
abbrev pub OrderBytesAreOrdered : Type 0
OrderBytesAreOrdered =
    (order : List SortPart) (a b : Record) → IsStorable order a → IsStorable order b
    → bytes_cmp (order_bytes order a) (order_bytes order b) ≡ record_cmp order a b

-- records of equal order bytes have equal keys and row pointers
abbrev pub OrderBytesAreToldApart : Type 0
OrderBytesAreToldApart =
    (order : List SortPart) (a b : Record) → IsStorable order a → IsStorable order b
    → order_bytes order a ≡ order_bytes order b → (a.keys ≡ b.keys) × (a.ptr ≡ b.ptr)

-- what was stored is read back, whatever stands before and behind it
abbrev pub StoredIsReadBack : Type 0
StoredIsReadBack =
    (order : List SortPart) (row : Record) (front behind : List ℕ) → IsStorable order row
    → record_at order (front ++ (stored order row ++ behind)) (length front) ≡ row

-- heads may be compared before the bytes: bytes compare as their heads and then as they do
abbrev pub HeadsMayDecide : Type 0
HeadsMayDecide =
    (a b : List ℕ) → All (λ byte. byte < 256) a → All (λ byte. byte < 256) b
    → ordering_then (nat_cmp (head_of a) (head_of b)) (bytes_cmp a b) ≡ bytes_cmp a b

-- the bytes that a value's piece takes at most
abbrev pub value_room : KeyVal → ℕ
value_room Nil = 1
value_room (Num number) = 9
value_room (Raw bytes) = 2 * length bytes + 3
value_room (Items elements) = 0

-- a record's bytes are few where its values are short
abbrev pub StoredIsShort : Type 0
StoredIsShort =
    (order : List SortPart) (row : Record)
    → (length (order_bytes order row) ≤ sum_by value_room row.keys + 6)
    × (length (extra_bytes row) ≤ sum_by value_room row.extra)
