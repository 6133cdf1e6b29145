-- Summaries joined: in any order, and of the same rows.
use Rattle.std.proofs.Common.{◌≡◌, ℕ, zero, suc, ◌<◌, Bool, true, false, ◌||◌, List, [], ◌∷◌, ◌++◌, length, map, refl, sym, ap, ◌∙◌, arith}
use Rattle.std.specs.Prelude.{◌↔◌, Contains, slice_index_or}
use Rattle.std.specs.List.{range_with_len}
use Rattle.std.specs.List.Sorted.{IsPermutation}
use Rattle.std.proofs.lemmas.List.Sorted.{Contains-permutation, IsPermutation-sym}
use Rattle.opclass.specs.declared.value.KeyVal.{KeyVal}
use Rattle.tuple_data.specs.Nulls.{is_null}
use Rattle.brin_summary.specs.Summary.{ColumnSummary, RangeSummary, column_summary, is_some_row, joined, joined_column, joined_columns, summary_of, value_in}
use Rattle.brin_summary.proofs.Choosing.{greater-assoc, greater-comm, greater-itself, greater-null, lesser-assoc, lesser-comm, lesser-itself, lesser-null}

-- ---- truth values

or-comm : (a b : Bool) → (a || b) ≡ (b || a)
or-comm true true = refl
or-comm true false = refl
or-comm false true = refl
or-comm false false = refl

or-assoc : (a b c : Bool) → ((a || b) || c) ≡ (a || (b || c))
or-assoc true b c = refl
or-assoc false b c = refl

or-itself : (a : Bool) → (a || a) ≡ a
or-itself true = refl
or-itself false = refl

or-false : (a : Bool) → (a || false) ≡ a
or-false true = refl
or-false false = refl

-- ---- columns

joined_column-comm : (a b : ColumnSummary) → joined_column a b ≡ joined_column b a
unfolding joined_column
joined_column-comm a b = rw (lesser-comm a.low b.low, greater-comm a.high b.high, or-comm a.has_null b.has_null) refl

joined_column-assoc : (a b c : ColumnSummary) → joined_column (joined_column a b) c ≡ joined_column a (joined_column b c)
unfolding joined_column
joined_column-assoc a b c = rw (lesser-assoc a.low b.low c.low, greater-assoc a.high b.high c.high, or-assoc a.has_null b.has_null c.has_null) refl

joined_column-itself : (a : ColumnSummary) → joined_column a a ≡ a
unfolding joined_column
joined_column-itself a = rw (lesser-itself a.low, greater-itself a.high, or-itself a.has_null) refl

-- the columns of no rows count for nothing
joined_column-none : (a : ColumnSummary) → joined_column a (column_summary []) ≡ a
unfolding joined_column column_summary
joined_column-none a = rw (lesser-null a.low, greater-null a.high, or-false a.has_null) refl

-- one value more
pub column_summary-cons : (value : KeyVal) (values : List KeyVal)
    → column_summary (value ∷ values) ≡ joined_column (column_summary (value ∷ [])) (column_summary values)
unfolding joined_column column_summary
column_summary-cons value values = rw (lesser-null value, greater-null value, or-false (is_null value)) refl

joined_columns-comm : (a b : List ColumnSummary) → joined_columns a b ≡ joined_columns b a
joined_columns-comm [] [] = refl
joined_columns-comm [] (y ∷ b) = refl
joined_columns-comm (x ∷ a) [] = refl
joined_columns-comm (x ∷ a) (y ∷ b) = rw (joined_column-comm x y, joined_columns-comm a b) refl

joined_columns-assoc : (a b c : List ColumnSummary) → joined_columns (joined_columns a b) c ≡ joined_columns a (joined_columns b c)
joined_columns-assoc [] b c = refl
joined_columns-assoc (x ∷ a) [] c = refl
joined_columns-assoc (x ∷ a) (y ∷ b) [] = refl
joined_columns-assoc (x ∷ a) (y ∷ b) (z ∷ c) = rw (joined_column-assoc x y z, joined_columns-assoc a b c) refl

joined_columns-itself : (a : List ColumnSummary) → joined_columns a a ≡ a
joined_columns-itself [] = refl
joined_columns-itself (x ∷ a) = rw (joined_column-itself x, joined_columns-itself a) refl

-- the columns of rows, and what they are joined with, place by place
module _ (f g h : ℕ → ColumnSummary) (same : (column : ℕ) → joined_column (f column) (g column) ≡ h column) where
  pub joined_columns-map : (columns : List ℕ) → joined_columns (map f columns) (map g columns) ≡ map h columns
  joined_columns-map [] = refl
  joined_columns-map (column ∷ columns) = rw (same column, joined_columns-map columns) refl

-- ---- ranges

pub joined_comm : (a b : RangeSummary) → joined a b ≡ joined b a
unfolding joined
joined_comm a b = rw (or-comm a.has_rows b.has_rows, joined_columns-comm a.columns b.columns) refl

pub joined_assoc : (a b c : RangeSummary) → joined (joined a b) c ≡ joined a (joined b c)
unfolding joined
joined_assoc a b c = rw (or-assoc a.has_rows b.has_rows c.has_rows, joined_columns-assoc a.columns b.columns c.columns) refl

joined-itself : (a : RangeSummary) → joined a a ≡ a
unfolding joined
joined-itself a = rw (or-itself a.has_rows, joined_columns-itself a.columns) refl

-- ---- rows

module _ (columns : ℕ) where
  -- no rows count for nothing
  summary_of-none : (rows : List (List KeyVal)) → joined (summary_of columns rows) (summary_of columns []) ≡ summary_of columns rows
  unfolding joined summary_of
  summary_of-none rows =
      let column = joined_columns-map (λ column. column_summary (map (value_in column) rows)) (λ column. column_summary []) (λ column. column_summary (map (value_in column) rows))
      (λ column. joined_column-none (column_summary (map (value_in column) rows))) (range_with_len 0 columns) in
      rw (or-false (is_some_row rows), column) refl

  -- one row more
  pub summary_of-cons : (row : List KeyVal) (rows : List (List KeyVal))
      → summary_of columns (row ∷ rows) ≡ joined (summary_of columns (row ∷ [])) (summary_of columns rows)
  unfolding joined summary_of
  summary_of-cons row rows =
      let column = joined_columns-map (λ column. column_summary (value_in column row ∷ [])) (λ column. column_summary (map (value_in column) rows)) (λ column. column_summary (value_in column row ∷ map (value_in column) rows))
      (λ column. sym (column_summary-cons (value_in column row) (map (value_in column) rows))) (range_with_len 0 columns) in
      rw column refl

  pub summary_of_append : (rows others : List (List KeyVal))
      → summary_of columns (rows ++ others) ≡ joined (summary_of columns rows) (summary_of columns others)
  summary_of_append [] others = sym (joined_comm (summary_of columns []) (summary_of columns others) ∙ summary_of-none others)
  summary_of_append (row ∷ rows) others =
      summary_of-cons row (rows ++ others)
      ∙ ap (joined (summary_of columns (row ∷ []))) (summary_of_append rows others)
      ∙ sym (joined_assoc (summary_of columns (row ∷ [])) (summary_of columns rows) (summary_of columns others))
      ∙ ap (λ s. joined s (summary_of columns others)) (sym (summary_of-cons row rows))

  -- a row that is there already changes nothing
  absorbed : (row : List KeyVal) (rows : List (List KeyVal)) (k : ℕ) → k < length rows → slice_index_or rows k row ≡ row
      → joined (summary_of columns (row ∷ [])) (summary_of columns rows) ≡ summary_of columns rows
  absorbed row [] k inside is = absurd (omega arith)
  absorbed row (first ∷ rows) zero inside is =
      let one = summary_of columns (row ∷ []) in
      let more = summary_of columns rows in
      let cons : summary_of columns (first ∷ rows) ≡ joined one more = summary_of-cons first rows ∙ ap (λ r. joined (summary_of columns (r ∷ [])) more) is in
      ap (joined one) cons ∙ sym (joined_assoc one one more) ∙ ap (λ s. joined s more) (joined-itself one) ∙ sym cons
  absorbed row (first ∷ rows) (suc k) inside is =
      let one = summary_of columns (row ∷ []) in
      let head = summary_of columns (first ∷ []) in
      let more = summary_of columns rows in
      ap (joined one) (summary_of-cons first rows)
      ∙ sym (joined_assoc one head more)
      ∙ ap (λ s. joined s more) (joined_comm one head)
      ∙ joined_assoc head one more
      ∙ ap (joined head) (absorbed row rows k (omega arith) is)
      ∙ sym (summary_of-cons first rows)

  -- rows that are all there already change nothing
  all-absorbed : (rows others : List (List KeyVal)) → ((row : List KeyVal) → Contains rows row → Contains others row)
      → joined (summary_of columns rows) (summary_of columns others) ≡ summary_of columns others
  all-absorbed [] others there = joined_comm (summary_of columns []) (summary_of columns others) ∙ summary_of-none others
  all-absorbed (row ∷ rows) others there =
      let here = there row (0, omega arith, refl) in
      ap (λ s. joined s (summary_of columns others)) (summary_of-cons row rows)
      ∙ joined_assoc (summary_of columns (row ∷ [])) (summary_of columns rows) (summary_of columns others)
      ∙ ap (joined (summary_of columns (row ∷ [])))
      (all-absorbed rows others (λ other inside. there other (suc inside.0, omega (arith, inside.1), inside.2)))
      ∙ absorbed row others here.0 here.1 here.2

  pub same_rows : (rows others : List (List KeyVal)) → ((row : List KeyVal) → Contains rows row ↔ Contains others row)
      → summary_of columns rows ≡ summary_of columns others
  same_rows rows others same =
      sym (all-absorbed others rows (λ row. (same row).1))
      ∙ joined_comm (summary_of columns others) (summary_of columns rows)
      ∙ all-absorbed rows others (λ row. (same row).0)

  pub any_order : (rows others : List (List KeyVal)) → IsPermutation rows others → summary_of columns rows ≡ summary_of columns others
  any_order rows others moved =
      same_rows rows others
      (λ row. (Contains-permutation rows others row moved, Contains-permutation others rows row (IsPermutation-sym rows others moved)))
