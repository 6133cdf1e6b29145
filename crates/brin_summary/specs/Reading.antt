-- The tuple of a range as it is read (brin_deform_tuple of brin_tuple.c).
use Rattle.std.specs.Prelude.{◌≡◌, ℕ, ◌*◌, ◌^◌, ◌<◌, ◌≤◌, true, false, not, List, length, map, take, All}
use Rattle.std.specs.List.{AllZip}
use Rattle.pg_bytes.specs.PageLayout.{aligned}
use Rattle.opclass.specs.declared.types.ColType.{ColType}
use Rattle.opclass.specs.Values.{IsValueOf}
use Rattle.tuple_data.specs.Nulls.{is_null}
use Rattle.brin_summary.specs.declared.range_tuple.RangeCol.{RangeCol}
use Rattle.brin_summary.specs.declared.range_tuple.RangeTuple.{RangeTuple}
use Rattle.brin_summary.specs.Summary.{ColumnSummary, RangeSummary}
use Rattle.brin_summary.specs.Tuple.{Header, bound_kinds, bounds_of, header_bytes, is_all_null, place_behind, range_tuple, tuple_most}

-- a column has both bounds or none
abbrev pub HasPair : ColumnSummary → Type 0
HasPair column = is_null column.high ≡ is_null column.low

-- The bytes are the tuple of the range that begins with a block, for columns of these types. Whether a column has nulls
-- is free: each of its has-nulls bits is taken, whether the column has a value or not, and in a range without rows too.
-- A tuple is no larger than a page takes.
pub record IsRangeTuple (kinds : List ColType) (first : ℕ) (range : RangeSummary) (bytes : List ℕ) : Type 0 where
  pub block : first < 2 ^ 32
  pub typed : AllZip IsValueOf (bound_kinds kinds) (bounds_of range.columns)
  pub paired : All HasPair range.columns
  pub empty : range.has_rows ≡ false → All (λ column. is_all_null column ≡ true) range.columns
  pub bytes_are : bytes ≡ range_tuple kinds first range
  pub size : length bytes ≤ tuple_most

-- what a tuple that is read says of a column, and of its range
abbrev pub column_read : RangeCol → ColumnSummary
column_read column = record { low = column.low; high = column.high; has_null = column.has_null }

abbrev pub range_read : RangeTuple → RangeSummary
range_read tuple = record { has_rows = not tuple.empty; columns = map column_read tuple.columns }

-- a column is called all null where its bounds are
abbrev pub IsCalledRight : RangeCol → Type 0
IsCalledRight column = column.all_null ≡ is_null column.low

-- the bytes are read as this tuple
pub record IsReadAs (kinds : List ColType) (bytes : List ℕ) (tuple : RangeTuple) : Type 0 where
  pub image : IsRangeTuple kinds tuple.first (range_read tuple) bytes
  pub called : All IsCalledRight tuple.columns

-- bytes of so many columns begin with a header and the zeros up to the data
pub record HasHeader (columns : ℕ) (header : Header) (bytes : List ℕ) : Type 0 where
  pub block : header.first < 2 ^ 32
  pub flags : length header.flags ≡ 2 * columns
  pub front : take (place_behind header.flags) bytes ≡ aligned (header_bytes header)
