-- A page of items (the layout at the head of bufpage.h): header, line pointers, hole, items, special space. The items
-- are placed downwards from the special space in the order of their line pointers.
use Rattle.std.specs.Prelude.{ℕ, ◌+◌, ◌-◌, ◌*◌, List, [], ◌∷◌, ◌++◌, length}
use Rattle.pg_bytes.specs.Numbers.{number_bytes, rounded_up}
use Rattle.pg_bytes.specs.Places.{zeros}
use Rattle.pg_bytes.specs.PageLayout.{page_size, header_size, line_pointer_size, page_header, aligned, normal_word}

-- the bytes that an item takes
abbrev pub space_of : List ℕ → ℕ
space_of item = rounded_up 8 (length item)

-- the bytes that items take together
abbrev pub space_taken : List (List ℕ) → ℕ
space_taken [] = 0
space_taken (item ∷ items) = space_of item + space_taken items

-- the line pointers of items that are placed downwards from an end
abbrev pub line_pointers : ℕ → List (List ℕ) → List ℕ
line_pointers end [] = []
line_pointers end (item ∷ items) =
    number_bytes 4 (normal_word (end - space_of item) (length item)) ++ line_pointers (end - space_of item) items

-- the items as they stand, the last one lowest
abbrev pub placed_items : List (List ℕ) → List ℕ
placed_items [] = []
placed_items (item ∷ items) = placed_items items ++ aligned item

-- where the line pointers end, and where the items begin
abbrev pub lower_at : List (List ℕ) → ℕ
lower_at items = header_size + line_pointer_size * length items

abbrev pub upper_at : List ℕ → List (List ℕ) → ℕ
upper_at special items = page_size - length special - space_taken items

-- the page of these items with this special space
unfoldable pub item_page : List ℕ → List (List ℕ) → List ℕ
item_page special items =
    page_header (lower_at items) (upper_at special items) (page_size - length special)
    ++ (line_pointers (page_size - length special) items
    ++ (zeros (upper_at special items - lower_at items)
    ++ (placed_items items ++ special)))

-- The page of these items where the first one is placed last, so that its bytes lie lowest, though its line pointer is
-- the first: a B-tree's page with its high key (P_HIKEY of nbtree.h, _bt_buildadd of nbtsort.c).
unfoldable pub first_lowest_page : List ℕ → List ℕ → List (List ℕ) → List ℕ
first_lowest_page special first items =
    page_header (lower_at (first ∷ items)) (upper_at special (first ∷ items)) (page_size - length special)
    ++ (number_bytes 4 (normal_word (upper_at special (first ∷ items)) (length first))
    ++ (line_pointers (page_size - length special) items
    ++ (zeros (upper_at special (first ∷ items) - lower_at (first ∷ items))
    ++ (aligned first ++ (placed_items items ++ special)))))
