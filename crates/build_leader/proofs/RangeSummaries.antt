-- What summaries tell of a range.
use Rattle.std.proofs.Common.{◌≡◌, ℕ, zero, suc, Bool, true, false, List, [], ◌∷◌, ◌++◌, length, refl, sym, ap, ◌∙◌, arith}
use Rattle.std.specs.Prelude.{map, nat_eq, if◌then◌else◌}
use Rattle.std.proofs.lemmas.List.Elements.{All-head, All-tail}
use Rattle.std.proofs.lemmas.List.FromFn.{length-map-range_with_len}
use Rattle.opclass.specs.declared.value.KeyVal.{KeyVal}
use Rattle.brin_summary.specs.Summary.{ColumnSummary, RangeSummary, column_summary, joined, joined_columns, summary_of, value_in}
use Rattle.brin_summary.proofs.Joining.{joined_assoc, joined_comm, summary_of_append}
use Rattle.brin_summary.specs.declared.ranges.SummedRange.{SummedRange}
use Rattle.build_leader.specs.Ranges.{told_of}
use Rattle.build_leader.specs.Tally.{AreOfColumns, begun_range}

-- what is told of a range, with one summary more in front, where more is told at the end
same_behind : (own : Bool) (first behind front end : RangeSummary) → behind ≡ joined front end
    → (if own then joined first behind else behind) ≡ joined (if own then joined first front else front) end
same_behind true first behind front end is = ap (joined first) is ∙ sym (joined_assoc first front end)
same_behind false first behind front end is = is

module _ (columns range : ℕ) where
  -- one summary of the range more
  pub told_own : (ranges : List SummedRange) (summed : SummedRange) → nat_eq summed.range range ≡ true
      → told_of columns range (ranges ++ summed ∷ []) ≡ joined (told_of columns range ranges) summed.summary
  told_own [] summed own = rw own (joined_comm summed.summary (summary_of columns []))
  told_own (first ∷ ranges) summed own =
      same_behind (nat_eq first.range range) first.summary (told_of columns range (ranges ++ summed ∷ []))
      (told_of columns range ranges) summed.summary (told_own ranges summed own)

  -- one of another range more
  pub told_other : (ranges : List SummedRange) (summed : SummedRange) → nat_eq summed.range range ≡ false
      → told_of columns range (ranges ++ summed ∷ []) ≡ told_of columns range ranges
  told_other [] summed other = rw other refl
  told_other (first ∷ ranges) summed other =
      ap (λ told. if nat_eq first.range range then joined first.summary told else told) (told_other ranges summed other)

  -- summaries of rows and others behind them
  pub told_both : (ranges others : List SummedRange) (rows : List (List KeyVal)) → told_of columns range others ≡ summary_of columns rows
      → told_of columns range (ranges ++ others) ≡ joined (told_of columns range ranges) (told_of columns range others)
  told_both [] others rows is = is ∙ summary_of_append columns [] rows ∙ ap (joined (summary_of columns [])) (sym is)
  told_both (first ∷ ranges) others rows is =
      same_behind (nat_eq first.range range) first.summary (told_of columns range (ranges ++ others))
      (told_of columns range ranges) (told_of columns range others) (told_both ranges others rows is)

-- a range without rows tells nothing
pub told_begun : (columns range begun : ℕ) (ranges : List SummedRange) (rows : List (List KeyVal))
    → told_of columns range ranges ≡ summary_of columns rows
    → told_of columns range (ranges ++ begun_range columns begun ∷ []) ≡ told_of columns range ranges
told_begun columns range begun ranges rows is = of_test (nat_eq begun range) refl
  where
    of_test : (own : Bool) → nat_eq begun range ≡ own
        → told_of columns range (ranges ++ begun_range columns begun ∷ []) ≡ told_of columns range ranges
    of_test true own =
        told_own columns range ranges (begun_range columns begun) own
        ∙ ap (λ told. joined told (summary_of columns [])) is
        ∙ joined_comm (summary_of columns rows) (summary_of columns [])
        ∙ sym (summary_of_append columns [] rows)
        ∙ sym is
    of_test false other = told_other columns range ranges (begun_range columns begun) other

-- ---- columns

length-joined_columns : (n : ℕ) (a b : List ColumnSummary) → length a ≡ n → length b ≡ n → length (joined_columns a b) ≡ n
length-joined_columns n [] b first second = first
length-joined_columns n (x ∷ a) [] first second = second
length-joined_columns zero (x ∷ a) (y ∷ b) first second = absurd (omega arith)
length-joined_columns (suc n) (x ∷ a) (y ∷ b) first second =
    let one : length a ≡ n = omega arith in
    let other : length b ≡ n = omega arith in
    ap suc (length-joined_columns n a b one other)

-- summaries of so many columns join to one of as many
pub joined_has_columns : (columns : ℕ) (a b : RangeSummary) → length a.columns ≡ columns → length b.columns ≡ columns
    → length (joined a b).columns ≡ columns
unfolding joined
joined_has_columns columns a b first second = length-joined_columns columns a.columns b.columns first second

-- that of rows has them
pub summary_has_columns : (columns : ℕ) (rows : List (List KeyVal)) → length (summary_of columns rows).columns ≡ columns
unfolding summary_of
summary_has_columns columns rows = length-map-range_with_len (λ column. column_summary (map (value_in column) rows)) 0 columns

abbrev IsOfColumns : ℕ → SummedRange → Type 0
IsOfColumns columns summed = length summed.summary.columns ≡ columns

-- and what is told of a range
pub told_has_columns : (columns range : ℕ) (ranges : List SummedRange) → AreOfColumns columns ranges
    → length (told_of columns range ranges).columns ≡ columns
told_has_columns columns range [] all = summary_has_columns columns []
told_has_columns columns range (first ∷ ranges) all =
    of_test (nat_eq first.range range) (told_has_columns columns range ranges (All-tail (IsOfColumns columns) first ranges all))
  where
    of_test : (own : Bool) → length (told_of columns range ranges).columns ≡ columns
        → length ((if own then joined first.summary (told_of columns range ranges) else told_of columns range ranges)).columns ≡ columns
    of_test true behind =
        joined_has_columns columns first.summary (told_of columns range ranges) (All-head (IsOfColumns columns) first ranges all) behind
    of_test false behind = behind
