-- The ranges of blocks of which a BRIN index tells, over the rows of a heap (brinbuild, brinbuildCallback and
-- _brin_parallel_merge of brin.c).
use Rattle.std.specs.Prelude.{◌≡◌, ℕ, ◌+◌, ◌-◌, ◌/◌, nat_eq, if◌then◌else◌, List, [], ◌∷◌, length, map, filter, All}
use Rattle.std.specs.List.{range_with_len}
use Rattle.opclass.specs.declared.spec.IndexSpec.{IndexSpec}
use Rattle.opclass.specs.declared.value.KeyVal.{KeyVal}
use Rattle.brin_summary.specs.Summary.{RangeSummary, joined, summary_of}
use Rattle.shared_tape.specs.declared.stored.Record.{Record}
use Rattle.brin_summary.specs.declared.ranges.SummedRange.{SummedRange}

-- the range of a row, counted from 0: that of its block
abbrev pub range_of : ℕ → Record → ℕ
range_of pages_per_range row = row.ptr.block / pages_per_range

-- the values of the rows in a range
abbrev pub values_in : ℕ → ℕ → List Record → List (List KeyVal)
values_in pages_per_range range rows =
    map (λ row. row.keys) (filter (λ row. nat_eq (range_of pages_per_range row) range) rows)

-- the summary of a range
unfoldable pub range_summary : IndexSpec → List Record → ℕ → RangeSummary
range_summary spec rows range = summary_of (length spec.keys) (values_in spec.pages_per_range range rows)

-- how many ranges so many blocks have: the last one may have fewer blocks than the others
abbrev pub range_count : ℕ → ℕ → ℕ
range_count pages_per_range blocks = (blocks + (pages_per_range - 1)) / pages_per_range

-- the summaries of all ranges of a heap of so many blocks
unfoldable pub range_summaries : IndexSpec → ℕ → List Record → List RangeSummary
range_summaries spec blocks rows =
    map (range_summary spec rows) (range_with_len 0 (range_count spec.pages_per_range blocks))

-- ---- what workers have of ranges

-- what summaries tell of a range: those of it, joined
abbrev pub told_of : ℕ → ℕ → List SummedRange → RangeSummary
told_of columns range [] = summary_of columns []
told_of columns range (summed ∷ others) =
    if nat_eq summed.range range
    then joined summed.summary (told_of columns range others)
    else told_of columns range others

-- Summaries are those of rows: of each range they tell what these rows come to, and of one that has none of them that
-- it has no row.
pub record HoldRanges (spec : IndexSpec) (rows : List Record) (ranges : List SummedRange) : Type 0 where
  pub columns : All (λ summed. length summed.summary.columns ≡ length spec.keys) ranges
  pub told : (range : ℕ) → told_of (length spec.keys) range ranges ≡ range_summary spec rows range

-- what they tell of all ranges of a heap of so many blocks
unfoldable pub told_ranges : IndexSpec → ℕ → List SummedRange → List RangeSummary
told_ranges spec blocks ranges =
    map (λ range. told_of (length spec.keys) range ranges) (range_with_len 0 (range_count spec.pages_per_range blocks))
