-- Null bitmaps of tuples and arrays (att_isnull of tupmacs.h, array_get_isnull of arrayfuncs.c).
use Rattle.std.specs.Prelude.{ℕ, ◌/◌, ◌%◌, ◌^◌, ◌==◌, Bool, false, not, List, Option, Some, None, slice_index}

-- the bit of a value, counted from 0: the lowest bit of the first byte is the first, and one that is set says that the
-- value is there
abbrev pub is_set : List ℕ → ℕ → Bool
is_set bitmap value = slice_index bitmap (value / 8) / 2 ^ (value % 8) % 2 == 1

-- a bitmap says that a value isn't there
abbrev pub is_absent : Option (List ℕ) → ℕ → Bool
is_absent None value = false
is_absent (Some bitmap) value = not (is_set bitmap value)
