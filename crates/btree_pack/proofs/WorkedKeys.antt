-- Separators and keys worked out by hand.
use Rattle.std.proofs.Common.{◌≡◌, ℕ, [], ◌∷◌, pos, true, Some, None, Less, Greater, refl}
use Rattle.opclass.specs.declared.value.KeyVal.{KeyVal}
use Rattle.opclass.specs.declared.value.KeyVal.TheVariants.{Num}
use Rattle.btree_pack.specs.Groups.{Group, Row}
use Rattle.btree_pack.specs.KeyBounds.{page_key_cmp, row_key, separator_of}
use Rattle.btree_pack.specs.Separators.{separator}

abbrev number : ℕ → KeyVal
number n = Num (pos n)

-- a row of two columns, and where it stands
abbrev row : ℕ → ℕ → ℕ → Row
row first second offset = record { keys = number first ∷ number second ∷ []; extra = []; pointer = record { block = 0; offset = offset } }

abbrev alone : Row → Group
alone one = record { first = one; others = [] }

-- 7, 9 | 8, 3: the first column tells
first_column : separator (alone (row 7 9 1)) (alone (row 8 3 2)) ≡ record { keys = number 8 ∷ []; pointer = None }
unfolding separator
first_column = refl

-- 8 by itself is above 7, 9 and below 8, 3; and the other way round where the column descends
first_column-above : page_key_cmp [] (Some (record { keys = number 8 ∷ []; pointer = None })) (row_key (row 7 9 1)) ≡ Greater
first_column-above = refl

first_column-below : page_key_cmp [] (Some (record { keys = number 8 ∷ []; pointer = None })) (row_key (row 8 3 2)) ≡ Less
first_column-below = refl

descending : page_key_cmp (record { descending = true; nulls_first = true } ∷ []) (Some (record { keys = number 7 ∷ []; pointer = None })) (row_key (row 8 3 2)) ≡ Greater
descending = refl

-- 8, 3 | 8, 4: both columns are needed
second_column : separator (alone (row 8 3 1)) (alone (row 8 4 2)) ≡ record { keys = number 8 ∷ number 4 ∷ []; pointer = None }
unfolding separator
second_column = refl

-- 8, 4 in rows 2 and 5 | 8, 4 in row 6: the greatest row pointer of the left tells
abbrev two : Group
two = record { first = row 8 4 2; others = row 8 4 5 ∷ [] }

row_pointer : separator two (alone (row 8 4 6)) ≡ record { keys = number 8 ∷ number 4 ∷ []; pointer = Some (record { block = 0; offset = 5 }) }
unfolding separator
row_pointer = refl

row_pointer-below : page_key_cmp [] (separator_of (record { left = Some two; group = alone (row 8 4 6) })) (row_key (row 8 4 6)) ≡ Less
unfolding separator
row_pointer-below = refl

row_pointer-above : page_key_cmp [] (separator_of (record { left = Some two; group = alone (row 8 4 6) })) (row_key (row 8 4 2)) ≡ Greater
unfolding separator
row_pointer-above = refl

-- nothing is before the first group: minus infinity
minus_infinity-below : page_key_cmp [] (separator_of (record { left = None; group = two })) (row_key (row 8 4 2)) ≡ Less
minus_infinity-below = refl
