-- A page of a B-tree's level (nbtree.h): its items, and unless it is the last of its level the high key in front of
-- them.
use Rattle.std.specs.Prelude.{ℕ, ◌+◌, ◌-◌, Bool, if◌then◌else◌, not, nat_eq, ◌&&◌, Option, Some, None, List, filter_map}
use Rattle.std.specs.List.{range_with_len}
use Rattle.pg_bytes.specs.ItemPage.{first_lowest_page, item_page}
use Rattle.pg_bytes.specs.Lines.{item_at, line_count}
use Rattle.btree_page.specs.declared.special.SpecialSpace.{SpecialSpace}
use Rattle.btree_page.specs.SpecialSpace.{space_of_page, special_bytes, special_space}

-- ---- written

-- the page of these items: a high key has the first line pointer and lies lowest (P_HIKEY, _bt_buildadd of nbtsort.c)
abbrev pub node_page : SpecialSpace → Option (List ℕ) → List (List ℕ) → List ℕ
node_page space None items = item_page (special_bytes space) items
node_page space (Some high_key) items = first_lowest_page (special_bytes space) high_key items

-- the last page of a level as it is built, which has no high key (_bt_slideleft of nbtsort.c)
abbrev pub rightmost_page : ℕ → ℕ → ℕ → List (List ℕ) → List ℕ
rightmost_page prev level flags items = item_page (special_space prev 0 level flags) items

-- any other one
abbrev pub bounded_page : ℕ → ℕ → ℕ → ℕ → List ℕ → List (List ℕ) → List ℕ
bounded_page prev next level flags high_key items = first_lowest_page (special_space prev next level flags) high_key items

-- ---- read

-- a page has a high key where it has a right neighbour (P_RIGHTMOST) and a line pointer for it
abbrev pub has_high_key : List ℕ → Bool
has_high_key page = not (nat_eq (space_of_page page).next 0) && not (nat_eq (line_count page) 0)

-- how many line pointers stand in front of those of its items (P_FIRSTDATAKEY)
abbrev pub lines_before : List ℕ → ℕ
lines_before page = if has_high_key page then 1 else 0

-- the bytes of its high key
abbrev pub high_key : List ℕ → Option (List ℕ)
high_key page = if has_high_key page then item_at page 1 else None

-- how many items it has, the high key not counted
abbrev pub data_count : List ℕ → ℕ
data_count page = line_count page - lines_before page

-- the bytes of an item, counted from 0
abbrev pub data_item : List ℕ → ℕ → Option (List ℕ)
data_item page number = item_at page (lines_before page + 1 + number)

-- those of all items in the order of their line pointers
abbrev pub data_items : List ℕ → List (List ℕ)
data_items page = filter_map (data_item page) (range_with_len 0 (data_count page))
