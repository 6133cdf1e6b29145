-- What a BRIN index tells of the rows of a range of blocks (brin_minmax.c, brin_tuple.c): whether there is one, and of
-- each column the least value, the greatest one, and whether a null is among them.
use Rattle.std.specs.Prelude.{ℕ, Bool, true, false, ◌||◌, if◌then◌else◌, List, [], ◌∷◌, map, slice_index_or}
use Rattle.std.specs.List.{range_with_len}
use Rattle.std.specs.Ordering.{is_lt}
use Rattle.opclass.specs.declared.spec.SortPart.{SortPart}
use Rattle.opclass.specs.declared.value.KeyVal.{KeyVal}
use Rattle.opclass.specs.declared.value.KeyVal.TheVariants.{Nil}
use Rattle.opclass.specs.Order.{column_cmp}
use Rattle.tuple_data.specs.Nulls.{has_null}

-- of a column: its least and its greatest value, both null where it has no value, and whether it has a null
pub record ColumnSummary : Type 0 where
  pub low : KeyVal
  pub high : KeyVal
  pub has_null : Bool

-- of a range: whether it has a row, and its columns
pub record RangeSummary : Type 0 where
  pub has_rows : Bool
  pub columns : List ColumnSummary

-- ascending, with nulls behind or before all values
abbrev pub ascending : Bool → SortPart
ascending nulls_first = record { descending = false; nulls_first = nulls_first }

-- The lesser and the greater of two values. A null stands on the far side, so it is taken only where there is no value.
unfoldable pub lesser : KeyVal → KeyVal → KeyVal
lesser a b = if is_lt (column_cmp (ascending false) b a) then b else a

unfoldable pub greater : KeyVal → KeyVal → KeyVal
greater a b = if is_lt (column_cmp (ascending true) a b) then b else a

-- the least and the greatest of several values, null where there is none
abbrev pub least : List KeyVal → KeyVal
least [] = Nil
least (value ∷ values) = lesser value (least values)

abbrev pub greatest : List KeyVal → KeyVal
greatest [] = Nil
greatest (value ∷ values) = greater value (greatest values)

-- the summary of the values of a column
unfoldable pub column_summary : List KeyVal → ColumnSummary
column_summary values = record { low = least values; high = greatest values; has_null = has_null values }

-- the value of a row in a column, counted from 0
abbrev pub value_in : ℕ → List KeyVal → KeyVal
value_in column row = slice_index_or row column Nil

-- there is a row
abbrev pub is_some_row : List (List KeyVal) → Bool
is_some_row [] = false
is_some_row (row ∷ rows) = true

-- the summary of rows of so many columns
unfoldable pub summary_of : ℕ → List (List KeyVal) → RangeSummary
summary_of columns rows = record {
  has_rows = is_some_row rows;
  columns = map (λ column. column_summary (map (value_in column) rows)) (range_with_len 0 columns);
}

-- ---- two summaries joined (brin_minmax_union of brin_minmax.c, union_tuples of brin.c)

unfoldable pub joined_column : ColumnSummary → ColumnSummary → ColumnSummary
joined_column a b = record {
  low = lesser a.low b.low;
  high = greater a.high b.high;
  has_null = a.has_null || b.has_null;
}

abbrev pub joined_columns : List ColumnSummary → List ColumnSummary → List ColumnSummary
joined_columns [] bs = []
joined_columns (a ∷ rest) [] = []
joined_columns (a ∷ rest) (b ∷ bs) = joined_column a b ∷ joined_columns rest bs

unfoldable pub joined : RangeSummary → RangeSummary → RangeSummary
joined a b = record {
  has_rows = a.has_rows || b.has_rows;
  columns = joined_columns a.columns b.columns;
}
