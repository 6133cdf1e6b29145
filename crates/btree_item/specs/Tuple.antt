-- Index tuples (IndexTupleData of itup.h, index_form_tuple of indextuple.c).
use Rattle.std.specs.Prelude.{ℕ, ◌+◌, ◌-◌, if◌then◌else◌, List, [], ◌++◌, length}
use Rattle.pg_bytes.specs.Numbers.{number_bytes, rounded_up}
use Rattle.pg_bytes.specs.Places.{zeros}
use Rattle.pg_bytes.specs.Pointers.{row_pointer_bytes}
use Rattle.pg_bytes.specs.declared.row_ptr.RowPtr.{RowPtr}
use Rattle.opclass.specs.declared.types.ColType.{ColType}
use Rattle.opclass.specs.declared.value.KeyVal.{KeyVal}
use Rattle.tuple_data.specs.Data.{data_of}
use Rattle.tuple_data.specs.Nulls.{has_null, has_variable, null_bits}

-- the bytes of the head: row pointer and t_info
abbrev pub head_size : ℕ
head_size = 8

-- Behind the head of a tuple with nulls stand a bitmap of four bytes, whatever the number of columns, and four zeros up
-- to the data (IndexInfoFindDataOffset).
abbrev pub bitmap_of : List KeyVal → List ℕ
bitmap_of values = if has_null values then number_bytes 4 (null_bits values) ++ zeros 4 else []

abbrev pub bitmap_size : List KeyVal → ℕ
bitmap_size values = if has_null values then 8 else 0

-- where the data end
abbrev pub data_end : List ColType → List KeyVal → ℕ
data_end kinds values = head_size + bitmap_size values + length (data_of kinds values)

-- the size of a tuple of these values and nothing more
unfoldable pub size_of : List ColType → List KeyVal → ℕ
size_of kinds values = rounded_up 8 (data_end kinds values)

-- t_info's marks: INDEX_AM_RESERVED_BIT, which B-trees have as INDEX_ALT_TID_MASK where no row's pointer stands in
-- front, INDEX_VAR_MASK and INDEX_NULL_MASK
abbrev pub no_row_mark : ℕ
no_row_mark = 0x2000

abbrev pub variable_mark : List ColType → List KeyVal → ℕ
variable_mark kinds values = if has_variable kinds values then 0x4000 else 0

abbrev pub null_mark : List KeyVal → ℕ
null_mark values = if has_null values then 0x8000 else 0

-- t_info: the size of the whole tuple in its lowest 13 bits, and the marks of its values
abbrev pub info_of : ℕ → List ColType → List KeyVal → ℕ
info_of size kinds values = size + (variable_mark kinds values + null_mark values)

-- a tuple with this in the place of its row pointer and this as t_info
unfoldable pub index_tuple : RowPtr → ℕ → List ColType → List KeyVal → List ℕ
index_tuple front info kinds values =
    row_pointer_bytes front
    ++ (number_bytes 2 info
    ++ (bitmap_of values ++ (data_of kinds values ++ zeros (size_of kinds values - data_end kinds values))))
