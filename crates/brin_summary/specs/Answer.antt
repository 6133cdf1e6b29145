-- What the packing of ranges is answered with: which range has a tuple that no page takes.
use Rattle.std.specs.Prelude.{◌≡◌, ℕ, ◌+◌, nat_lt, if◌then◌else◌, Option, Some, None, ⊤, List, [], ◌∷◌, length}
use Rattle.opclass.specs.declared.types.ColType.{ColType}
use Rattle.brin_summary.specs.declared.file.BrinFault.{BrinFault}
use Rattle.brin_summary.specs.declared.file.BrinFault.TheVariants.{Memory, RangeWide}
use Rattle.brin_summary.specs.Summary.{RangeSummary}
use Rattle.brin_summary.specs.Tuple.{range_tuple, tuple_most}

-- the size of a range's tuple, wherever the range begins
unfoldable pub tuple_size : List ColType → RangeSummary → ℕ
tuple_size kinds range = length (range_tuple kinds 0 range)

-- a range, counted from 0, and the size of its tuple
pub record Wide : Type 0 where
  pub range : ℕ
  pub size : ℕ

-- the least range from one on whose tuple is larger than a page takes
abbrev pub wide_from : List ColType → ℕ → List RangeSummary → Option Wide
wide_from kinds at [] = None
wide_from kinds at (range ∷ ranges) =
    if nat_lt tuple_most (tuple_size kinds range)
    then Some (record { range = at; size = tuple_size kinds range })
    else wide_from kinds (at + 1) ranges

-- the least of all
unfoldable pub wide_range : List ColType → List RangeSummary → Option Wide
wide_range kinds ranges = wide_from kinds 0 ranges

-- a fault is told that there is: the least wide range, or that no memory was left
abbrev pub IsTold : List ColType → List RangeSummary → BrinFault → Type 0
IsTold kinds ranges (RangeWide range size) = wide_range kinds ranges ≡ Some (record { range = range; size = size })
IsTold kinds ranges Memory = ⊤
