-- Pivots (nbtree.h, BTreeTupleSetNAtts and its kin; _bt_truncate of nbtutils.c).
use Rattle.std.specs.Prelude.{ℕ, ◌+◌, nat_le, if◌then◌else◌, Option, Some, None, List, [], ◌++◌, length, take}
use Rattle.std.specs.declared.cmp.Ordering.{Ordering}
use Rattle.std.specs.Option.{option_cmp}
use Rattle.std.specs.Ordering.{ordering_then}
use Rattle.pg_bytes.specs.Numbers.{number_bytes}
use Rattle.pg_bytes.specs.Places.{zeros}
use Rattle.pg_bytes.specs.Pointers.{row_pointer_bytes}
use Rattle.pg_bytes.specs.declared.row_ptr.RowPtr.{RowPtr}
use Rattle.opclass.specs.declared.spec.SortPart.{SortPart}
use Rattle.opclass.specs.declared.types.ColType.{ColType}
use Rattle.opclass.specs.declared.value.KeyVal.{KeyVal}
use Rattle.opclass.specs.Order.{key_cmp, pointer_cmp}
use Rattle.btree_item.specs.Tuple.{index_tuple, info_of, no_row_mark, size_of}

-- BT_PIVOT_HEAP_TID_ATTR: a row pointer stands at the end
abbrev pub pointer_mark : ℕ
pointer_mark = 0x1000

-- behind the attributes: nothing, or a row pointer that ends with the tuple
abbrev pub pivot_tail : Option RowPtr → List ℕ
pivot_tail None = []
pivot_tail (Some last) = zeros 2 ++ row_pointer_bytes last

abbrev pub tail_size : Option RowPtr → ℕ
tail_size None = 0
tail_size (Some last) = 8

-- how many attributes there are, marked where a row pointer is there too
abbrev pub pivot_offset : ℕ → Option RowPtr → ℕ
pivot_offset kept None = kept
pivot_offset kept (Some last) = kept + pointer_mark

-- the pivot that has these attributes and leads to a child, 0 for a leaf's high key
unfoldable pub image_of_attributes : List ColType → List KeyVal → ℕ → Option RowPtr → ℕ → List ℕ
image_of_attributes kinds keys kept last child =
    index_tuple
    (record { block = child; offset = pivot_offset kept last })
    (info_of (size_of kinds keys + tail_size last + no_row_mark) kinds keys)
    kinds
    keys
    ++ pivot_tail last

-- the pivot that keeps the first attributes of a tuple
abbrev pub pivot_image : List ColType → List KeyVal → ℕ → Option RowPtr → ℕ → List ℕ
pivot_image kinds keys kept last child = image_of_attributes (take kept kinds) (take kept keys) kept last child

-- minus infinity: no attributes, only a child
abbrev pub minus_infinity : ℕ → List ℕ
minus_infinity child = row_pointer_bytes (record { block = child; offset = 0 }) ++ number_bytes 2 0x2008

-- The keys and row pointers of two pivots (_bt_compare of nbtsearch.c): an attribute that was cut off is below every
-- value, so fewer attributes that are alike stand before more, and a row pointer that isn't there is below every other.
abbrev pub pivots_cmp : List SortPart → List KeyVal × Option RowPtr → List KeyVal × Option RowPtr → Ordering
pivots_cmp parts a b = ordering_then (key_cmp parts a.0 b.0) (option_cmp pointer_cmp a.1 b.1)

-- those of a pivot beside a row's
abbrev pub pivot_cmp : List SortPart → List KeyVal × Option RowPtr → List KeyVal × RowPtr → Ordering
pivot_cmp parts pivot row = pivots_cmp parts pivot (row.0, Some row.1)

-- what a pivot keeps of a tuple: its first attributes, and where it keeps more than there are a row pointer too
abbrev pub kept_of : List KeyVal → RowPtr → ℕ → List KeyVal × Option RowPtr
kept_of keys last kept = (take kept keys, if nat_le kept (length keys) then None else Some last)
