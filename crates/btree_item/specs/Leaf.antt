-- The tuples of leaves (nbtree.h, BTreeTupleSetPosting and its kin; _bt_form_posting of nbtdedup.c).
use Rattle.std.specs.Prelude.{ℕ, ◌+◌, ◌-◌, ◌*◌, List, ◌++◌, length}
use Rattle.std.specs.List.{flat_map}
use Rattle.pg_bytes.specs.Numbers.{rounded_up}
use Rattle.pg_bytes.specs.Places.{zeros}
use Rattle.pg_bytes.specs.Pointers.{row_pointer_bytes}
use Rattle.pg_bytes.specs.declared.row_ptr.RowPtr.{RowPtr}
use Rattle.opclass.specs.declared.types.ColType.{ColType}
use Rattle.opclass.specs.declared.value.KeyVal.{KeyVal}
use Rattle.btree_item.specs.Tuple.{index_tuple, info_of, no_row_mark, size_of}

-- the tuple of one row
abbrev pub plain_image : List ColType → List KeyVal → RowPtr → List ℕ
plain_image kinds values ptr = index_tuple ptr (info_of (size_of kinds values) kinds values) kinds values

-- BT_IS_POSTING
abbrev pub posting_mark : ℕ
posting_mark = 0x2000

-- where so many row pointers end behind the keys, six bytes each, and the size of the whole
abbrev pub pointers_end : List ColType → List KeyVal → ℕ → ℕ
pointers_end kinds keys count = size_of kinds keys + 6 * count

abbrev pub posting_size : List ColType → List KeyVal → ℕ → ℕ
posting_size kinds keys count = rounded_up 8 (pointers_end kinds keys count)

-- in front of a posting tuple: where its row pointers begin, and how many they are
abbrev pub posting_front : List ColType → List KeyVal → List RowPtr → RowPtr
posting_front kinds keys ptrs = record { block = size_of kinds keys; offset = length ptrs + posting_mark }

-- the tuple of several rows with the same keys
unfoldable pub posting_image : List ColType → List KeyVal → List RowPtr → List ℕ
posting_image kinds keys ptrs =
    index_tuple
    (posting_front kinds keys ptrs)
    (info_of (posting_size kinds keys (length ptrs) + no_row_mark) kinds keys)
    kinds
    keys
    ++ (flat_map row_pointer_bytes ptrs
    ++ zeros (posting_size kinds keys (length ptrs) - pointers_end kinds keys (length ptrs)))
