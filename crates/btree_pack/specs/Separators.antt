-- What a pivot tuple keeps of the first row behind a page's end, so that it tells the page from its right neighbour
-- (_bt_truncate and _bt_keep_natts of nbtutils.c).
use Rattle.std.specs.Prelude.{◌+◌, Bool, nat_lt, if◌then◌else◌, List, length, take, Option, Some, None}
use Rattle.std.specs.List.{common_prefix_len}
use Rattle.std.specs.Ordering.{is_eq}
use Rattle.pg_bytes.specs.declared.row_ptr.RowPtr.{RowPtr}
use Rattle.opclass.specs.Order.{column_cmp, unsaid}
use Rattle.opclass.specs.declared.value.KeyVal.{KeyVal}
use Rattle.btree_pack.specs.Ends.{last_of}
use Rattle.btree_pack.specs.Groups.{Group}

-- the values of the first key columns, and a row pointer where these alone don't tell
pub record Separator : Type 0 where
  pub keys : List KeyVal
  pub pointer : Option RowPtr

-- whether values of a column are equal, whatever its direction
abbrev pub is_same_value : KeyVal → KeyVal → Bool
is_same_value a b = is_eq (column_cmp unsaid a b)

-- the greatest row pointer of a group, whose rows ascend by it
abbrev pub greatest_pointer : Group → RowPtr
greatest_pointer group = (last_of group.first group.others).pointer

-- What separates two neighbouring groups: the right one's keys up to the first column in which they differ. Where none
-- differs it is all keys with the greatest row pointer of the left one. INCLUDE columns are never kept.
unfoldable pub separator : Group → Group → Separator
separator left right =
    let alike = common_prefix_len is_same_value left.first.keys right.first.keys in
    if nat_lt alike (length right.first.keys)
    then record { keys = take (alike + 1) right.first.keys; pointer = None }
    else record { keys = right.first.keys; pointer = Some (greatest_pointer left) }
