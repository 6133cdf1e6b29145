-- A summary as it is kept: bounds in one list, nulls in another.
use Rattle.std.proofs.Common.{◌≡◌, ℕ, zero, suc, ◌+◌, ◌-◌, ◌*◌, ◌<◌, ◌≤◌, Bool, true, false, ◌||◌, List, [], ◌∷◌, ◌++◌, length, map, take, drop, get_or, set, replicate, refl, sym, ap, ◌∙◌, arith, add-zero, zero-add}
use Rattle.std.specs.Prelude.{Option, unwrap_or}
use Rattle.std.proofs.lemmas.List.{take_all}
use Rattle.std.specs.List.{range_with_len}
use Rattle.opclass.specs.declared.value.KeyVal.{KeyVal}
use Rattle.opclass.specs.declared.value.KeyVal.TheVariants.{Nil}
use Rattle.tuple_data.specs.Nulls.{is_null}
use Rattle.brin_summary.specs.Pass.{columns_from, row_columns}
use Rattle.brin_summary.specs.Summary.{ColumnSummary, RangeSummary, column_summary, greater, joined, joined_column, joined_columns, lesser, summary_of, value_in}
use Rattle.brin_summary.proofs.Choosing.{greater-null, lesser-null}

pub length-columns_from : (bounds : List KeyVal) (nulls : List Bool) → length bounds ≡ 2 * length nulls → length (columns_from bounds nulls) ≡ length nulls
length-columns_from [] [] even = refl
length-columns_from [] (null ∷ nulls) even = absurd (omega arith)
length-columns_from (low ∷ []) [] even = absurd (omega arith)
length-columns_from (low ∷ []) (null ∷ nulls) even = absurd (omega arith)
length-columns_from (low ∷ high ∷ bounds) [] even = absurd (omega arith)
length-columns_from (low ∷ high ∷ bounds) (null ∷ nulls) even = ap suc (length-columns_from bounds nulls (omega arith))

or-false : (a : Bool) → (a || false) ≡ a
or-false true = refl
or-false false = refl

-- one column takes a value in
module _ (more new_more : List KeyVal) (nulls new_nulls : List Bool) (low high : KeyVal) where
  joined-first : (old_low old_high value : KeyVal) (old_null null : Bool) (values : List KeyVal)
      → low ≡ lesser old_low value → high ≡ greater old_high value → null ≡ (old_null || is_null value)
      → columns_from new_more new_nulls ≡ joined_columns (columns_from more nulls) (row_columns values)
      → columns_from (low ∷ high ∷ new_more) (null ∷ new_nulls)
      ≡ joined_columns (columns_from (old_low ∷ old_high ∷ more) (old_null ∷ nulls)) (row_columns (value ∷ values))
  unfolding joined_column column_summary
  joined-first old_low old_high value old_null null values is_low is_high is_null_ rest =
      rw (is_low, is_high, is_null_, rest, lesser-null value, greater-null value, or-false (is_null value)) refl

  -- the same over the parts that the lists are split into
  pub joined-split : (pair : List KeyVal) (has_null : List Bool) (values bounds : List KeyVal) (all_nulls : List Bool) (value : KeyVal) (null : Bool)
      → length pair ≡ 2 → length has_null ≡ 1 → bounds ≡ pair ++ more → all_nulls ≡ has_null ++ nulls
      → 1 ≤ length values → value ≡ get_or values 0 value
      → low ≡ lesser (get_or pair 0 Nil) value → high ≡ greater (get_or pair 1 Nil) value → null ≡ is_null value
      → columns_from new_more new_nulls ≡ joined_columns (columns_from more nulls) (row_columns (take (length values - 1) (drop 1 values)))
      → columns_from (set (set pair 0 low) 1 high ++ new_more) (set has_null 0 (get_or has_null 0 false || null) ++ new_nulls)
      ≡ joined_columns (columns_from bounds all_nulls) (row_columns values)
  joined-split [] has_null values bounds all_nulls value null two one split split_nulls some first is_low is_high is_null_ rest = absurd (omega arith)
  joined-split (a ∷ []) has_null values bounds all_nulls value null two one split split_nulls some first is_low is_high is_null_ rest = absurd (omega arith)
  joined-split (a ∷ b ∷ c ∷ d) has_null values bounds all_nulls value null two one split split_nulls some first is_low is_high is_null_ rest = absurd (omega arith)
  joined-split (a ∷ b ∷ []) [] values bounds all_nulls value null two one split split_nulls some first is_low is_high is_null_ rest = absurd (omega arith)
  joined-split (a ∷ b ∷ []) (n ∷ m ∷ more_nulls) values bounds all_nulls value null two one split split_nulls some first is_low is_high is_null_ rest = absurd (omega arith)
  joined-split (a ∷ b ∷ []) (n ∷ []) [] bounds all_nulls value null two one split split_nulls some first is_low is_high is_null_ rest = absurd (omega arith)
  joined-split (a ∷ b ∷ []) (n ∷ []) (v ∷ values) bounds all_nulls value null two one split split_nulls some first is_low is_high is_null_ rest =
      rw (split, split_nulls)
      (joined-first a b v n (n || null) values (is_low ∙ ap (lesser a) first) (is_high ∙ ap (greater b) first)
      (ap (λ t. n || t) (is_null_ ∙ ap is_null first))
      (rest ∙ ap (λ l. joined_columns (columns_from more nulls) (row_columns l)) (take_all (suc (length values) - 1) values (omega arith))))

-- what stands in the place of a bound, by what was read there
pub new-first : (pair : List KeyVal) (new : Option KeyVal) (old again value low : KeyVal) → length pair ≡ 2
    → low ≡ unwrap_or new (get_or pair 0 again) → unwrap_or new (get_or pair 0 old) ≡ lesser (get_or pair 0 old) value
    → low ≡ lesser (get_or pair 0 Nil) value
new-first [] new old again value low two is_low made = absurd (omega arith)
new-first (a ∷ pair) new old again value low two is_low made = is_low ∙ made

pub new-second : (pair : List KeyVal) (new : Option KeyVal) (first old again value high : KeyVal) → length pair ≡ 2
    → high ≡ unwrap_or new (get_or (set pair 0 first) 1 again) → unwrap_or new (get_or pair 1 old) ≡ greater (get_or pair 1 old) value
    → high ≡ greater (get_or pair 1 Nil) value
new-second [] new first old again value high two is_high made = absurd (omega arith)
new-second (a ∷ []) new first old again value high two is_high made = absurd (omega arith)
new-second (a ∷ b ∷ pair) new first old again value high two is_high made = is_high ∙ made

-- ---- the columns of one row

module _ (all : List KeyVal) where
  row-from : (base : ℕ) (values : List KeyVal) → ((k : ℕ) → k < length values → value_in (base + k) all ≡ value_in k values)
      → map (λ column. column_summary (value_in column all ∷ [])) (range_with_len base (length values)) ≡ row_columns values
  row-from base [] same = refl
  row-from base (value ∷ values) same =
      let here : value_in base all ≡ value = ap (λ n. value_in n all) (sym (add-zero base)) ∙ same 0 (omega arith) in
      let rest = row-from (base + 1) values (λ k inside. ap (λ n. value_in n all) (let e : base + 1 + k ≡ base + suc k = omega arith in e) ∙ same (suc k) (omega arith)) in
      rw (here, rest) refl

pub row-summary : (values : List KeyVal) → summary_of (length values) (values ∷ []) ≡ record { has_rows = true; columns = row_columns values }
unfolding summary_of
row-summary values = rw (row-from values 0 values (λ k inside. ap (λ n. value_in n values) (zero-add k))) refl

-- a summary that took a row in
pub joined-row : (has_rows : Bool) (columns : List ColumnSummary) (values : List KeyVal)
    → joined (record { has_rows = has_rows; columns = columns }) (summary_of (length values) (values ∷ []))
    ≡ record { has_rows = true; columns = joined_columns columns (row_columns values) }
unfolding joined
joined-row true columns values = rw (row-summary values) refl
joined-row false columns values = rw (row-summary values) refl

-- ---- no rows

no-columns : (base count double : ℕ) → double ≡ 2 * count
    → columns_from (replicate double Nil) (replicate count false) ≡ map (λ (column : ℕ). column_summary []) (range_with_len base count)
unfolding column_summary
no-columns base zero zero is = refl
no-columns base zero (suc double) is = absurd (omega arith)
no-columns base (suc count) zero is = absurd (omega arith)
no-columns base (suc count) (suc zero) is = absurd (omega arith)
no-columns base (suc count) (suc (suc double)) is =
    ap (λ l. record { low = Nil; high = Nil; has_null = false } ∷ l) (no-columns (base + 1) count double (omega arith))

pub no-rows : (count : ℕ) (bounds : List KeyVal) (nulls : List Bool) → bounds ≡ replicate (2 * count) Nil → nulls ≡ replicate count false
    → record { has_rows = false; columns = columns_from bounds nulls } ≡ summary_of count []
unfolding summary_of
no-rows count bounds nulls is_bounds is_nulls = rw (is_bounds, is_nulls, no-columns 0 count (2 * count) refl) refl

-- ---- a summary and what it is kept as

module _ (has_rows : Bool) (bounds : List KeyVal) (nulls : List Bool) (summary : RangeSummary)
    (kept : record { has_rows = has_rows; columns = columns_from bounds nulls } ≡ summary) where
  pub kept-nulls : (count : ℕ) → length bounds ≡ 2 * length nulls → count ≡ length summary.columns → length nulls ≡ count
  kept-nulls count even same =
      let long : length (columns_from bounds nulls) ≡ length summary.columns = ap (λ (s : RangeSummary). length s.columns) kept in
      sym (length-columns_from bounds nulls even) ∙ long ∙ sym same

  pub kept-row : (values : List KeyVal) (new_bounds put_bounds : List KeyVal) (new_nulls put_nulls : List Bool)
      → put_bounds ≡ new_bounds → put_nulls ≡ new_nulls
      → columns_from new_bounds new_nulls ≡ joined_columns (columns_from bounds nulls) (row_columns values)
      → record { has_rows = true; columns = columns_from put_bounds put_nulls } ≡ joined summary (summary_of (length values) (values ∷ []))
  kept-row values new_bounds put_bounds new_nulls put_nulls are_bounds are_nulls new =
      ap (λ (b : List KeyVal). record { has_rows = true; columns = columns_from b put_nulls }) are_bounds
      ∙ ap (λ (n : List Bool). record { has_rows = true; columns = columns_from new_bounds n }) are_nulls
      ∙ ap (λ (l : List ColumnSummary). record { has_rows = true; columns = l }) new
      ∙ sym (joined-row has_rows (columns_from bounds nulls) values)
      ∙ ap (λ s. joined s (summary_of (length values) (values ∷ []))) kept

  pub kept-join : (others : Bool) (other_bounds : List KeyVal) (other_nulls : List Bool) (other : RangeSummary)
      → record { has_rows = others; columns = columns_from other_bounds other_nulls } ≡ other
      → (new_bounds put_bounds : List KeyVal) (new_nulls put_nulls : List Bool)
      → put_bounds ≡ new_bounds → put_nulls ≡ new_nulls
      → columns_from new_bounds new_nulls ≡ joined_columns (columns_from bounds nulls) (columns_from other_bounds other_nulls)
      → record { has_rows = has_rows || others; columns = columns_from put_bounds put_nulls } ≡ joined summary other
  unfolding joined
  kept-join others other_bounds other_nulls other kept_other new_bounds put_bounds new_nulls put_nulls are_bounds are_nulls new =
      ap (λ (b : List KeyVal). record { has_rows = has_rows || others; columns = columns_from b put_nulls }) are_bounds
      ∙ ap (λ (n : List Bool). record { has_rows = has_rows || others; columns = columns_from new_bounds n }) are_nulls
      ∙ ap (λ (l : List ColumnSummary). record { has_rows = has_rows || others; columns = l }) new
      ∙ ap (λ s. joined s (record { has_rows = others; columns = columns_from other_bounds other_nulls })) kept
      ∙ ap (joined summary) kept_other

-- ---- two columns joined, over the parts that the lists are split into

module _ (more new_more more_others : List KeyVal) (nulls new_nulls : List Bool) (low high : KeyVal) where
  pub joined-both : (pair other_pair : List KeyVal) (has_null : List Bool) (bounds other_bounds : List KeyVal) (all_nulls other_nulls : List Bool)
      (low_default other_low left high_default other_high : KeyVal)
      → length pair ≡ 2 → length other_pair ≡ 2 → length has_null ≡ 1 → bounds ≡ pair ++ more → other_bounds ≡ other_pair ++ more_others
      → all_nulls ≡ has_null ++ nulls → 1 ≤ length other_nulls
      → low ≡ lesser (get_or pair 0 low_default) (get_or other_pair 0 other_low)
      → high ≡ greater (get_or (set pair 0 low) 1 high_default) (get_or (set other_pair 0 left) 1 other_high)
      → columns_from new_more new_nulls ≡ joined_columns (columns_from more nulls) (columns_from more_others (take (length other_nulls - 1) (drop 1 other_nulls)))
      → columns_from (set (set pair 0 low) 1 high ++ new_more) (set has_null 0 (get_or has_null 0 false || get_or other_nulls 0 false) ++ new_nulls)
      ≡ joined_columns (columns_from bounds all_nulls) (columns_from other_bounds other_nulls)
  unfolding joined_column
  joined-both [] others has_null bounds other_bounds all_nulls other_nulls l ol le h oh two other_two one split split_others split_nulls some is_low is_high rest = absurd (omega arith)
  joined-both (a ∷ []) others has_null bounds other_bounds all_nulls other_nulls l ol le h oh two other_two one split split_others split_nulls some is_low is_high rest = absurd (omega arith)
  joined-both (a ∷ b ∷ c ∷ d) others has_null bounds other_bounds all_nulls other_nulls l ol le h oh two other_two one split split_others split_nulls some is_low is_high rest = absurd (omega arith)
  joined-both (a ∷ b ∷ []) [] has_null bounds other_bounds all_nulls other_nulls l ol le h oh two other_two one split split_others split_nulls some is_low is_high rest = absurd (omega arith)
  joined-both (a ∷ b ∷ []) (x ∷ []) has_null bounds other_bounds all_nulls other_nulls l ol le h oh two other_two one split split_others split_nulls some is_low is_high rest = absurd (omega arith)
  joined-both (a ∷ b ∷ []) (x ∷ y ∷ z ∷ w) has_null bounds other_bounds all_nulls other_nulls l ol le h oh two other_two one split split_others split_nulls some is_low is_high rest = absurd (omega arith)
  joined-both (a ∷ b ∷ []) (x ∷ y ∷ []) [] bounds other_bounds all_nulls other_nulls l ol le h oh two other_two one split split_others split_nulls some is_low is_high rest = absurd (omega arith)
  joined-both (a ∷ b ∷ []) (x ∷ y ∷ []) (n ∷ m ∷ r) bounds other_bounds all_nulls other_nulls l ol le h oh two other_two one split split_others split_nulls some is_low is_high rest = absurd (omega arith)
  joined-both (a ∷ b ∷ []) (x ∷ y ∷ []) (n ∷ []) bounds other_bounds all_nulls [] l ol le h oh two other_two one split split_others split_nulls some is_low is_high rest = absurd (omega arith)
  joined-both (a ∷ b ∷ []) (x ∷ y ∷ []) (n ∷ []) bounds other_bounds all_nulls (o ∷ other_nulls) l ol le h oh two other_two one split split_others split_nulls some is_low is_high rest =
      let rest' : columns_from new_more new_nulls ≡ joined_columns (columns_from more nulls) (columns_from more_others other_nulls) =
      rest ∙ ap (λ l. joined_columns (columns_from more nulls) (columns_from more_others l)) (take_all (suc (length other_nulls) - 1) other_nulls (omega arith)) in
      rw (split, split_others, split_nulls, is_low, is_high, rest') refl
