-- The tuple of a range (BrinTuple of brin_tuple.h, brin_form_tuple of brin_tuple.c).
use Rattle.std.specs.Prelude.{ℕ, ◌+◌, ◌*◌, ◌/◌, Bool, if◌then◌else◌, List, [], ◌∷◌, ◌++◌, length, map}
use Rattle.std.specs.List.{flat_map, list_any}
use Rattle.pg_bytes.specs.Numbers.{number_bytes, rounded_up}
use Rattle.pg_bytes.specs.PageLayout.{aligned}
use Rattle.opclass.specs.declared.types.ColType.{ColType}
use Rattle.opclass.specs.declared.value.KeyVal.{KeyVal}
use Rattle.tuple_data.specs.Data.{data_of}
use Rattle.tuple_data.specs.Nulls.{is_null}
use Rattle.brin_summary.specs.Summary.{ColumnSummary, RangeSummary}

-- the most bytes of a tuple, BrinMaxItemSize of brin_pageops.c: what a page has beside its header, one line pointer and its special space
abbrev pub tuple_most : ℕ
tuple_most = 8152

-- SizeOfBrinTuple: the range's first block and the info byte
abbrev pub fixed_size : ℕ
fixed_size = 5

-- of the info byte beside the place of the data (BRIN_OFFSET_MASK): BRIN_EMPTY_RANGE_MASK and BRIN_NULLS_MASK
abbrev pub empty_range : ℕ
empty_range = 0x20

abbrev pub nulls_there : ℕ
nulls_there = 0x80

-- a column without a value
abbrev pub is_all_null : ColumnSummary → Bool
is_all_null column = is_null column.low

-- what the null bitmap tells: of each column whether all is null in it, and then of each whether a null is in it
abbrev pub null_flags : List ColumnSummary → List Bool
null_flags columns = map is_all_null columns ++ map (λ column. column.has_null) columns

-- flags as a number, the first one in the lowest bit
abbrev pub bits_of : List Bool → ℕ
bits_of [] = 0
bits_of (flag ∷ flags) = (if flag then 1 else 0) + 2 * bits_of flags

-- as many bytes as flags need, BITMAPLEN
abbrev pub bitmap_size : ℕ → ℕ
bitmap_size flags = (flags + 7) / 8

-- what a tuple's header says: the range's first block, whether the range has a row, and the flags of its columns
pub record Header : Type 0 where
  pub first : ℕ
  pub has_rows : Bool
  pub flags : List Bool

-- the null bitmap, which is there where a flag is set; unlike in other tuples a set bit means null
unfoldable pub bitmap_of : List Bool → List ℕ
bitmap_of flags =
    if list_any (λ flag. flag) flags then number_bytes (bitmap_size (length flags)) (bits_of flags) else []

-- where the data begin behind a header with these flags
abbrev pub place_behind : List Bool → ℕ
place_behind flags = rounded_up 8 (fixed_size + length (bitmap_of flags))

unfoldable pub info_of : Bool → List Bool → ℕ
info_of has_rows flags =
    place_behind flags + (if has_rows then 0 else empty_range)
    + (if list_any (λ flag. flag) flags then nulls_there else 0)

-- the header's layout: the first block, the info byte and the null bitmap
unfoldable pub header_bytes : Header → List ℕ
header_bytes header = number_bytes 4 header.first ++ info_of header.has_rows header.flags ∷ bitmap_of header.flags

-- ---- of a range

abbrev pub null_bitmap : List ColumnSummary → List ℕ
null_bitmap columns = bitmap_of (null_flags columns)

abbrev pub data_place : List ColumnSummary → ℕ
data_place columns = place_behind (null_flags columns)

abbrev pub info_byte : RangeSummary → ℕ
info_byte range = info_of range.has_rows (null_flags range.columns)

-- the header of the range that begins with a block
abbrev pub header_of : ℕ → RangeSummary → Header
header_of first range = record { first = first; has_rows = range.has_rows; flags = null_flags range.columns }

abbrev pub tuple_header : ℕ → RangeSummary → List ℕ
tuple_header first range = header_bytes (header_of first range)

-- the least and the greatest value of each column, a pair behind the other, and their types
abbrev pub bounds_of : List ColumnSummary → List KeyVal
bounds_of columns = flat_map (λ column. column.low ∷ column.high ∷ []) columns

abbrev pub bound_kinds : List ColType → List ColType
bound_kinds kinds = flat_map (λ kind. kind ∷ kind ∷ []) kinds

-- the data, to which a column without a value adds nothing
unfoldable pub range_data : List ColType → RangeSummary → List ℕ
range_data kinds range = data_of (bound_kinds kinds) (bounds_of range.columns)

-- the tuple of the range that begins with a block
unfoldable pub range_tuple : List ColType → ℕ → RangeSummary → List ℕ
range_tuple kinds first range = aligned (tuple_header first range) ++ aligned (range_data kinds range)
