-- Where a page ends while sorted items are packed (_bt_buildadd of nbtsort.c). Levels are told by their numbers, 0 for
-- the leaves. Items are told by what they take: what their bytes and keys are is left to their content.
use Rattle.std.specs.Prelude.{ℕ, zero, suc, ◌+◌, ◌-◌, ◌*◌, ◌/◌, Bool, nat_lt, ◌||◌, List, [], ◌∷◌, ◌++◌}
use Rattle.std.specs.List.{sum_by}
use Rattle.pg_bytes.specs.PageLayout.{page_size, header_size, line_pointer_size}
use Rattle.btree_page.specs.SpecialSpace.{special_start}

-- An item of a level: what it has to say, its size on a page, and how much of that is its list of row pointers; the
-- size of the separator by which the level above tells a page that begins with it; the moment at which it arrives; and
-- above the leaves the moment at which its child was born, the page below to which it leads.
pub record Item (C : Type 0) : Type 0 where
  pub content : C
  pub size : ℕ
  pub extra : ℕ
  pub bound : ℕ
  pub arrival : ℕ
  pub child : ℕ

-- the size of a tuple without keys, which stands for minus infinity (sizeof(IndexTupleData))
abbrev pub minus_infinity_size : ℕ
minus_infinity_size = 8

-- the size with which the first item of a page stands: above the leaves it is minus infinity (_bt_sortaddtup)
abbrev pub first_size : {C : Type 0} → ℕ → Item C → ℕ
first_size zero first = first.size
first_size (suc level) first = minus_infinity_size

-- the bytes that a page's items take with their line pointers
abbrev pub taken : {C : Type 0} → ℕ → List (Item C) → ℕ
taken level [] = 0
taken level (first ∷ others) =
    (first_size level first + line_pointer_size) + sum_by (λ item. item.size + line_pointer_size) others

-- what a page has for its items, where the line pointers of the high key and of one item more are set aside
abbrev pub page_room : ℕ
page_room = special_start - header_size - 2 * line_pointer_size

-- what an arriving item has to leave: on a leaf the row pointer that its high key may have beside the keys
abbrev pub spare : ℕ → ℕ
spare zero = 8
spare (suc level) = 0

-- as much as a page keeps free by its fill factor, which is 70 above the leaves (BTREE_NONLEAF_FILLFACTOR of nbtree.h)
abbrev pub soft_limit : ℕ → ℕ → ℕ
soft_limit fillfactor zero = page_size * (100 - fillfactor) / 100
soft_limit fillfactor (suc level) = page_size * (100 - 70) / 100

-- An item breaks the page with these items where it hasn't room behind them, or where they leave less free than the
-- fill factor wants, what the list of the last one takes not counted.
abbrev pub breaks : {C : Type 0} → ℕ → ℕ → List (Item C) → Item C → Item C → Bool
breaks fillfactor level before last item =
    nat_lt page_room (taken level (before ++ last ∷ []) + (item.size + spare level))
    || nat_lt (page_room + last.extra) (taken level (before ++ last ∷ []) + soft_limit fillfactor level)
