-- How the ranges of workers become those of the heap.
use Rattle.std.specs.Prelude.{◌≡◌, ℕ, List, length, map, All}
use Rattle.std.specs.List.{range_with_len}
use Rattle.brin_summary.specs.Summary.{RangeSummary}
use Rattle.brin_summary.specs.declared.ranges.SummedRange.{SummedRange}
use Rattle.build_leader.specs.Ranges.{told_of}

-- what summaries tell of each of so many ranges
abbrev pub told_each : ℕ → ℕ → List SummedRange → List RangeSummary
told_each columns count ranges = map (λ range. told_of columns range ranges) (range_with_len 0 count)

-- that is known
abbrev pub AreTold : ℕ → List SummedRange → List RangeSummary → Type 0
AreTold columns ranges known = known ≡ told_each columns (length known) ranges

-- each summary has so many columns
abbrev pub HaveColumns : ℕ → List RangeSummary → Type 0
HaveColumns columns known = All (λ range. length range.columns ≡ columns) known
