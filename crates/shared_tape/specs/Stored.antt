-- A record of a sort: its order, and its bytes in a run. PostgreSQL sorts index tuples by their first key, shortened to
-- eight bytes that compare without the tuple (abbreviated keys of tuplesort.c), and then by comparetup_index_btree of
-- tuplesortvariants.c. Here the whole order of a record is bytes. Own rules.
use Rattle.std.specs.Prelude.{ℕ, ◌<◌, ◌^◌, List, ◌++◌, length, All}
use Rattle.std.specs.declared.cmp.Ordering.{Ordering}
use Rattle.std.specs.Int.{bytes_high_first}
use Rattle.std.specs.List.{flat_map}
use Rattle.pg_bytes.specs.declared.row_ptr.RowPtr.{RowPtr}
use Rattle.pg_bytes.specs.Numbers.{number_bytes}
use Rattle.opclass.specs.declared.spec.SortPart.{SortPart}
use Rattle.opclass.specs.Order.{row_cmp, unsaid}
use Rattle.opclass.specs.Norm.{piece, norm_of, IsKeyValue, AreKeys}
use Rattle.shared_tape.specs.declared.stored.Record.{Record}

-- the order of records: by their keys, and equal ones by their row pointers
abbrev pub record_cmp : List SortPart → Record → Record → Ordering
record_cmp order a b = row_cmp order (a.keys, a.ptr) (b.keys, b.ptr)

-- a row pointer in bytes that stand to others as the pointers do: its block and then its offset, highest byte first
abbrev pub pointer_bytes : RowPtr → List ℕ
pointer_bytes ptr = bytes_high_first 4 ptr.block ++ bytes_high_first 2 ptr.offset

-- the bytes by which a record is sorted: its normalised key and its row pointer
unfoldable pub order_bytes : List SortPart → Record → List ℕ
order_bytes order row = norm_of order row.keys ++ pointer_bytes row.ptr

-- the bytes of the values that no order is said of: a piece for each, ascending with nulls last
unfoldable pub extra_bytes : Record → List ℕ
extra_bytes row = flat_map (piece unsaid) row.extra

-- bytes behind their length
abbrev pub counted : List ℕ → List ℕ
counted bytes = number_bytes 4 (length bytes) ++ bytes

-- a record's bytes in a run
unfoldable pub stored : List SortPart → Record → List ℕ
stored order row = counted (order_bytes order row) ++ counted (extra_bytes row)

-- a row pointer whose numbers have their widths
abbrev pub IsPointer : RowPtr → Type 0
IsPointer ptr = (ptr.block < 2 ^ 32) × (ptr.offset < 2 ^ 16)

-- A record that a run of this order takes: its keys are one for each column of the order, no value is an array, and
-- each of its two lengths has room in four bytes.
pub record IsStorable (order : List SortPart) (row : Record) : Type 0 where
  pub keys : AreKeys order row.keys
  pub extra : All IsKeyValue row.extra
  pub pointer : IsPointer row.ptr
  pub order_fits : length (order_bytes order row) < 2 ^ 32
  pub extra_fits : length (extra_bytes row) < 2 ^ 32
