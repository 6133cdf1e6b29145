-- The rows of a range and its bounds.
use Rattle.std.proofs.Common.{◌≡◌, ◌⊎◌, ℕ, zero, suc, ◌+◌, ◌<◌, Bool, true, false, ◌||◌, Some, None, List, [], ◌∷◌, ◌++◌, length, map, replicate, inl, inr, refl, sym, ap, subst, ◌∙◌, arith, zero-add}
use Rattle.std.specs.Prelude.{◌≢◌, Contains, slice_get, slice_index_or}
use Rattle.std.specs.List.{range_with_len}
use Rattle.std.specs.Ordering.{is_gt}
use Rattle.std.specs.declared.cmp.Ordering.{Ordering}
use Rattle.std.specs.declared.cmp.Ordering.TheVariants.{Greater}
use Rattle.opclass.specs.declared.value.KeyVal.{KeyVal}
use Rattle.opclass.specs.declared.value.KeyVal.TheVariants.{Nil, Num, Raw, Items}
use Rattle.opclass.specs.Order.{column_cmp}
use Rattle.tuple_data.specs.Nulls.{has_null, is_null}
use Rattle.brin_summary.specs.Laws.{IsTight, IsWithin}
use Rattle.brin_summary.specs.Summary.{ColumnSummary, ascending, column_summary, greater, greatest, least, lesser, summary_of, value_in}
use Rattle.brin_summary.specs.Tuple.{is_all_null, null_flags}
use Rattle.brin_summary.proofs.Choosing.{greater-either, greater-first, greater-second, lesser-either, lesser-first, lesser-second, not-above}

-- ---- one column

least-below : (values : List KeyVal) (value : KeyVal) (k : ℕ) → k < length values → slice_index_or values k value ≡ value
    → is_gt (column_cmp (ascending false) (least values) value) ≡ false
least-below [] value k inside is = absurd (omega arith)
least-below (first ∷ values) value zero inside is =
    subst (λ v. is_gt (column_cmp (ascending false) (lesser first (least values)) v) ≡ false) is (lesser-first first (least values))
least-below (first ∷ values) value (suc k) inside is =
    not-above false (lesser first (least values)) (least values) value (lesser-second first (least values)) (least-below values value k (omega arith) is)

greatest-above : (values : List KeyVal) (value : KeyVal) (k : ℕ) → k < length values → slice_index_or values k value ≡ value
    → is_gt (column_cmp (ascending true) value (greatest values)) ≡ false
greatest-above [] value k inside is = absurd (omega arith)
greatest-above (first ∷ values) value zero inside is =
    subst (λ v. is_gt (column_cmp (ascending true) v (greater first (greatest values))) ≡ false) is (greater-first first (greatest values))
greatest-above (first ∷ values) value (suc k) inside is =
    not-above true value (greatest values) (greater first (greatest values)) (greatest-above values value k (omega arith) is) (greater-second first (greatest values))

-- where nulls stand doesn't matter to what isn't null
high-known : (value high : KeyVal) → value ≢ Nil → is_gt (column_cmp (ascending true) value high) ≡ false
    → column_cmp (ascending false) value high ≢ Greater
high-known Nil high some side e = some refl
high-known (Num a) Nil some side e = let no : ◌≡◌ {A = Bool} true false = side in cc
high-known (Num a) (Num b) some side e = let no : ◌≡◌ {A = Bool} true false = sym (ap is_gt e) ∙ side in cc
high-known (Num a) (Raw b) some side e = cc
high-known (Num a) (Items b) some side e = cc
high-known (Raw a) Nil some side e = let no : ◌≡◌ {A = Bool} true false = side in cc
high-known (Raw a) (Num b) some side e = let no : ◌≡◌ {A = Bool} true false = side in cc
high-known (Raw a) (Raw b) some side e = let no : ◌≡◌ {A = Bool} true false = sym (ap is_gt e) ∙ side in cc
high-known (Raw a) (Items b) some side e = cc
high-known (Items a) Nil some side e = let no : ◌≡◌ {A = Bool} true false = side in cc
high-known (Items a) (Num b) some side e = let no : ◌≡◌ {A = Bool} true false = side in cc
high-known (Items a) (Raw b) some side e = let no : ◌≡◌ {A = Bool} true false = side in cc
high-known (Items a) (Items b) some side e = let no : ◌≡◌ {A = Bool} true false = sym (ap is_gt e) ∙ side in cc

low-known : (order : Ordering) → is_gt order ≡ false → order ≢ Greater
low-known order side e = let no : ◌≡◌ {A = Bool} true false = sym (ap is_gt e) ∙ side in cc

null-there : (values : List KeyVal) (value : KeyVal) (k : ℕ) → k < length values → slice_index_or values k value ≡ value → value ≡ Nil → has_null values ≡ true
null-there [] value k inside is null = absurd (omega arith)
null-there (first ∷ values) value zero inside is null = rw (is ∙ null) refl
null-there (first ∷ values) value (suc k) inside is null = rw (null-there values value k (omega arith) is null) (or-true (is_null first))
  where
    or-true : (a : Bool) → (a || true) ≡ true
    or-true true = refl
    or-true false = refl

column-within : (values : List KeyVal) (value : KeyVal) → Contains values value → IsWithin value (column_summary values)
unfolding column_summary
column-within values value inside = (
  λ null. null-there values value inside.0 inside.1 inside.2 null,
  λ some. low-known (column_cmp (ascending false) (least values) value) (least-below values value inside.0 inside.1 inside.2),
  λ some. high-known value (greatest values) some (greatest-above values value inside.0 inside.1 inside.2),
)

-- ---- bounds are values

contains-more : (first : KeyVal) (values : List KeyVal) (value : KeyVal) → Contains values value → Contains (first ∷ values) value
contains-more first values value inside = (suc inside.0, omega (arith, inside.1), inside.2)

least-there : (values : List KeyVal) → (least values ≡ Nil) ⊎ Contains values (least values)
least-there [] = inl refl
least-there (first ∷ values) = elim (lesser-either first (least values)) [
  | inl e ↦ inr (0, omega arith, sym e)
  | inr e ↦ elim (least-there values) [
    | inl none ↦ inl (e ∙ none)
    | inr inside ↦ inr (subst (Contains (first ∷ values)) (sym e) (contains-more first values (least values) inside))
  ]
]

greatest-there : (values : List KeyVal) → (greatest values ≡ Nil) ⊎ Contains values (greatest values)
greatest-there [] = inl refl
greatest-there (first ∷ values) = elim (greater-either first (greatest values)) [
  | inl e ↦ inr (0, omega arith, sym e)
  | inr e ↦ elim (greatest-there values) [
    | inl none ↦ inl (e ∙ none)
    | inr inside ↦ inr (subst (Contains (first ∷ values)) (sym e) (contains-more first values (greatest values) inside))
  ]
]

null-is : (values : List KeyVal) → has_null values ≡ true → Contains values Nil
null-is [] there = let no : ◌≡◌ {A = Bool} false true = there in cc
null-is (Nil ∷ values) there = (0, omega arith, refl)
null-is (Num a ∷ values) there = contains-more (Num a) values Nil (null-is values there)
null-is (Raw a ∷ values) there = contains-more (Raw a) values Nil (null-is values there)
null-is (Items a ∷ values) there = contains-more (Items a) values Nil (null-is values there)

column-tight : (values : List KeyVal) → IsTight values (column_summary values)
unfolding column_summary
column-tight values = record { low = least-there values; high = greatest-there values; has_null = null-is values }

-- ---- the columns of rows

-- a column of a summary is that of its values
column-at : (f : ℕ → ColumnSummary) (base count column : ℕ) (summary : ColumnSummary)
    → slice_get (map f (range_with_len base count)) column ≡ Some summary → summary ≡ f (base + column)
column-at f base zero column summary is = let no : ◌≡◌ {A = _} None (Some summary) = is in cc
column-at f base (suc count) zero summary is =
    let same : f base ≡ summary = cc in
    sym same ∙ ap f (let e : base ≡ base + 0 = omega arith in e)
column-at f base (suc count) (suc column) summary is =
    column-at f (base + 1) count column summary is ∙ ap f (let e : base + 1 + column ≡ base + suc column = omega arith in e)

summary-at : (columns column : ℕ) (rows : List (List KeyVal)) (summary : ColumnSummary)
    → slice_get (summary_of columns rows).columns column ≡ Some summary → summary ≡ column_summary (map (value_in column) rows)
unfolding summary_of
summary-at columns column rows summary is =
    column-at (λ c. column_summary (map (value_in c) rows)) 0 columns column summary is
    ∙ ap (λ c. column_summary (map (value_in c) rows)) (zero-add column)

contains-value : (column : ℕ) (rows : List (List KeyVal)) (row : List KeyVal) (k : ℕ) → k < length rows → slice_index_or rows k row ≡ row
    → Contains (map (value_in column) rows) (value_in column row)
contains-value column [] row k inside is = absurd (omega arith)
contains-value column (first ∷ rows) row zero inside is = (0, omega arith, ap (value_in column) is)
contains-value column (first ∷ rows) row (suc k) inside is =
    contains-more (value_in column first) (map (value_in column) rows) (value_in column row) (contains-value column rows row k (omega arith) is)

pub rows_within : (columns column : ℕ) (rows : List (List KeyVal)) (row : List KeyVal) (summary : ColumnSummary)
    → Contains rows row → slice_get (summary_of columns rows).columns column ≡ Some summary → IsWithin (value_in column row) summary
rows_within columns column rows row summary inside is =
    subst (IsWithin (value_in column row)) (sym (summary-at columns column rows summary is))
    (column-within (map (value_in column) rows) (value_in column row) (contains-value column rows row inside.0 inside.1 inside.2))

pub summaries_tight : (columns column : ℕ) (rows : List (List KeyVal)) (summary : ColumnSummary)
    → slice_get (summary_of columns rows).columns column ≡ Some summary → IsTight (map (value_in column) rows) summary
summaries_tight columns column rows summary is =
    subst (IsTight (map (value_in column) rows)) (sym (summary-at columns column rows summary is)) (column-tight (map (value_in column) rows))

-- ---- no rows

flags-of-none : (base columns : ℕ) → map is_all_null (map (λ (column : ℕ). column_summary []) (range_with_len base columns)) ≡ replicate columns true
unfolding column_summary
flags-of-none base zero = refl
flags-of-none base (suc columns) = ap (λ l. true ∷ l) (flags-of-none (base + 1) columns)

nulls-of-none : (base columns : ℕ)
    → map (λ (column : ColumnSummary). column.has_null) (map (λ (column : ℕ). column_summary []) (range_with_len base columns)) ≡ replicate columns false
unfolding column_summary
nulls-of-none base zero = refl
nulls-of-none base (suc columns) = ap (λ l. false ∷ l) (nulls-of-none (base + 1) columns)

pub no_rows_no_null : (columns : ℕ) → null_flags (summary_of columns []).columns ≡ replicate columns true ++ replicate columns false
unfolding summary_of
no_rows_no_null columns = rw (flags-of-none 0 columns, nulls-of-none 0 columns) refl
