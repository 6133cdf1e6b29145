-- What workers know of ranges is what the rows of the heap come to.
use Rattle.std.proofs.Common.{◌≡◌, ℕ, Bool, List, [], ◌++◌, length, map, refl, sym, ap, ap₂, ◌∙◌}
use Rattle.std.specs.Prelude.{filter, nat_eq}
use Rattle.std.specs.List.{range_with_len}
use Rattle.std.specs.List.Sorted.{IsPermutation}
use Rattle.std.proofs.lemmas.List.{map-append}
use Rattle.std.proofs.lemmas.List.Elements.{All-append, All-nil, filter-append}
use Rattle.std.proofs.lemmas.List.Sorted.{IsPermutation-map}
use Rattle.run_merge.proofs.Moves.{IsPermutation-filter}
use Rattle.opclass.specs.declared.spec.IndexSpec.{IndexSpec}
use Rattle.brin_summary.specs.Summary.{joined, summary_of}
use Rattle.brin_summary.proofs.Joining.{any_order, summary_of_append}
use Rattle.shared_tape.specs.declared.stored.Record.{Record}
use Rattle.brin_summary.specs.declared.ranges.SummedRange.{SummedRange}
use Rattle.build_leader.specs.Ranges.{HoldRanges, range_count, range_of, range_summaries, range_summary, told_of, told_ranges, values_in}
use Rattle.build_leader.proofs.Lists.{map_same}
use Rattle.build_leader.proofs.RangeSummaries.{told_both}

module _ (pages_per_range range : ℕ) where
  abbrev pub IsOfRange : Record → Bool
  IsOfRange row = nat_eq (range_of pages_per_range row) range

  -- the values of rows and of others
  pub values_in-append : (rows others : List Record)
      → values_in pages_per_range range (rows ++ others)
      ≡ values_in pages_per_range range rows ++ values_in pages_per_range range others
  values_in-append rows others =
      ap (map (λ row. row.keys)) (filter-append IsOfRange rows others)
      ∙ map-append (λ (row : Record). row.keys) (filter IsOfRange rows) (filter IsOfRange others)

  pub values_in-permuted : (rows others : List Record) → IsPermutation rows others
      → IsPermutation (values_in pages_per_range range rows) (values_in pages_per_range range others)
  values_in-permuted rows others moved =
      IsPermutation-map (λ (row : Record). row.keys) (filter IsOfRange rows) (filter IsOfRange others)
      (IsPermutation-filter IsOfRange rows others moved)

-- what is held of a range is the summary of its rows
pub held_is_summary : (spec : IndexSpec) (rows : List Record) (ranges : List SummedRange) → HoldRanges spec rows ranges
    → (range : ℕ)
    → told_of (length spec.keys) range ranges ≡ summary_of (length spec.keys) (values_in spec.pages_per_range range rows)
unfolding range_summary
held_is_summary spec rows ranges held range = held.told range

module _ (spec : IndexSpec) where
  pub range_summary-append : (rows others : List Record) (range : ℕ)
      → range_summary spec (rows ++ others) range ≡ joined (range_summary spec rows range) (range_summary spec others range)
  unfolding range_summary
  range_summary-append rows others range =
      ap (summary_of (length spec.keys)) (values_in-append spec.pages_per_range range rows others)
      ∙ summary_of_append (length spec.keys) (values_in spec.pages_per_range range rows) (values_in spec.pages_per_range range others)

  -- nothing is known of no rows
  pub hold_none : HoldRanges spec [] []
  unfolding range_summary
  hold_none = record {
    columns = All-nil (λ (summed : SummedRange). length summed.summary.columns ≡ length spec.keys);
    told = λ range. refl;
  }

  -- summaries of rows, and those of others behind them
  pub hold_append : (rows others : List Record) (a b : List SummedRange) → HoldRanges spec rows a → HoldRanges spec others b
      → HoldRanges spec (rows ++ others) (a ++ b)
  hold_append rows others a b held more = record {
    columns = All-append (λ (summed : SummedRange). length summed.summary.columns ≡ length spec.keys) a b held.columns more.columns;
    told = λ range.
        told_both (length spec.keys) range a b (values_in spec.pages_per_range range others) (held_is_summary spec others b more range)
        ∙ ap₂ joined (held.told range) (more.told range)
        ∙ sym (range_summary-append rows others range);
  }

  -- the order of rows doesn't matter
  pub hold_permuted : (rows others : List Record) (ranges : List SummedRange) → IsPermutation rows others
      → HoldRanges spec rows ranges → HoldRanges spec others ranges
  unfolding range_summary
  hold_permuted rows others ranges moved held = record {
    columns = held.columns;
    told = λ range.
        held.told range
        ∙ any_order (length spec.keys) (values_in spec.pages_per_range range rows) (values_in spec.pages_per_range range others)
        (values_in-permuted spec.pages_per_range range rows others moved);
  }

  -- what is held of all ranges of a heap are their summaries
  pub held_are_summaries : (rows : List Record) (ranges : List SummedRange) (blocks : ℕ) → HoldRanges spec rows ranges
      → told_ranges spec blocks ranges ≡ range_summaries spec blocks rows
  unfolding told_ranges range_summaries
  held_are_summaries rows ranges blocks held =
      map_same (λ range. told_of (length spec.keys) range ranges) (range_summary spec rows) held.told
      (range_with_len 0 (range_count spec.pages_per_range blocks))
