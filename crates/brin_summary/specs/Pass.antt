-- How a summary is kept, and what the passes over it keep.
use Rattle.std.specs.Prelude.{ℕ, zero, suc, ◌+◌, ◌*◌, ◌/◌, ◌%◌, nat_eq, nat_lt, Bool, if◌then◌else◌, List, [], ◌∷◌, map, slice_index}
use Rattle.pg_bytes.specs.Numbers.{number_at}
use Rattle.opclass.specs.declared.types.ColType.{ColType}
use Rattle.opclass.specs.declared.value.KeyVal.{KeyVal}
use Rattle.tuple_data.specs.Nulls.{is_null}
use Rattle.brin_summary.specs.Summary.{ColumnSummary, column_summary}
use Rattle.brin_summary.specs.Tuple.{Header, bitmap_size, empty_range, fixed_size, nulls_there}
use Rattle.brin_summary.specs.declared.tuple_head.TupleHead.{TupleHead}

-- the columns whose bounds stand pair by pair in a list, and their nulls in another
abbrev pub columns_from : List KeyVal → List Bool → List ColumnSummary
columns_from (low ∷ high ∷ bounds) (has_null ∷ nulls) =
    record { low = low; high = high; has_null = has_null } ∷ columns_from bounds nulls
columns_from bounds nulls = []

-- the columns of one row
abbrev pub row_columns : List KeyVal → List ColumnSummary
row_columns values = map (λ value. column_summary (value ∷ [])) values

-- of types that stand twice each, each once
abbrev pub half_of : List ColType → List ColType
half_of (kind ∷ again ∷ kinds) = kind ∷ half_of kinds
half_of kinds = []

-- of bounds that stand pair by pair, which pairs are all null
abbrev pub low_nulls : List KeyVal → List Bool
low_nulls (low ∷ high ∷ bounds) = is_null low ∷ low_nulls bounds
low_nulls bounds = []

-- flags as a number, with those of another number behind
abbrev pub bits_behind : List Bool → ℕ → ℕ
bits_behind [] behind = behind
bits_behind (flag ∷ flags) behind = (if flag then 1 else 0) + 2 * bits_behind flags behind

-- ---- a header that is read

-- the lowest bits of a number as flags, the lowest first
abbrev pub flags_of : ℕ → ℕ → List Bool
flags_of zero bits = []
flags_of (suc count) bits = nat_eq (bits % 2) 1 ∷ flags_of count (bits / 2)

-- the bounds that are there as bits, two for each column, which flags call all null
abbrev pub present_of : List Bool → ℕ
present_of [] = 0
present_of (flag ∷ flags) = (if flag then 0 else 3) + 4 * present_of flags

-- the header that is kept, of so many columns
abbrev pub seen_header : ℕ → TupleHead → Header
seen_header columns head =
    record { first = head.first; has_rows = head.has_rows; flags = flags_of (2 * columns) head.bits }

-- the null bitmap as a number, 0 where the info byte has none
abbrev pub bits_in : ℕ → List ℕ → ℕ
bits_in columns bytes =
    if nat_lt (slice_index bytes 4) nulls_there then 0 else number_at (bitmap_size (2 * columns)) bytes fixed_size

-- the only header that bytes can have
abbrev pub header_in : ℕ → List ℕ → Header
header_in columns bytes = record {
  first = number_at 4 bytes 0;
  has_rows = nat_lt (slice_index bytes 4 % (2 * empty_range)) empty_range;
  flags = flags_of (2 * columns) (bits_in columns bytes);
}
