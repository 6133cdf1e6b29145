-- How a worker's ranges grow by a row.
use Rattle.std.specs.Prelude.{◌≡◌, ℕ, Bool, false, nat_eq, List, [], ◌∷◌, ◌++◌, length, All}
use Rattle.opclass.specs.declared.value.KeyVal.{KeyVal}
use Rattle.brin_summary.specs.Summary.{joined, summary_of}
use Rattle.brin_summary.specs.declared.ranges.SummedRange.{SummedRange}

-- each summary has so many columns
abbrev pub AreOfColumns : ℕ → List SummedRange → Type 0
AreOfColumns columns ranges = All (λ summed. length summed.summary.columns ≡ columns) ranges

-- a range without rows
abbrev pub begun_range : ℕ → ℕ → SummedRange
begun_range columns range = record { range = range; summary = summary_of columns [] }

-- the last of several ranges is this one
abbrev pub ends_with : ℕ → List SummedRange → Bool
ends_with range [] = false
ends_with range (summed ∷ []) = nat_eq summed.range range
ends_with range (summed ∷ others) = ends_with range others

-- the last range has taken a row in by its values, and those before it are the same
pub record TakesIn (keys : List KeyVal) (old new : List SummedRange) : Type 0 where
  pub front : List SummedRange
  pub last : SummedRange
  pub old_are : old ≡ front ++ last ∷ []
  pub new_are :
      new
      ≡ front
      ++ record {
        range = last.range;
        summary = joined last.summary (summary_of (length keys) (keys ∷ []));
      }
      ∷ []
