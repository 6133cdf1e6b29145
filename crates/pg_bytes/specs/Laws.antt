-- A page is read as the items and the special space of which it was made.
use Rattle.std.specs.Prelude.{◌≡◌, ◌⊎◌, ℕ, ◌+◌, ◌-◌, ◌*◌, ◌≤◌, Some, List, ◌∷◌, length, slice_get}
use Rattle.pg_bytes.specs.ItemPage.{first_lowest_page, item_page, space_taken}
use Rattle.pg_bytes.specs.Lines.{item_at, items_on, line_count}
use Rattle.pg_bytes.specs.PageLayout.{header_size, line_pointer_size, page_size, special_of, special_space_of}

-- the special space is that of a GIN or BRIN page, or of a B-tree's, and the items have room before it
pub record HaveRoomBefore (special : List ℕ) (items : List (List ℕ)) : Type 0 where
  pub special_size : (length special ≡ 8) ⊎ (length special ≡ 16)
  pub room : header_size + (line_pointer_size * length items + (space_taken items + length special)) ≤ page_size

-- a page is read as these items, item k under line pointer k, and this special space
pub record IsReadAs (page special : List ℕ) (items : List (List ℕ)) : Type 0 where
  pub size : length page ≡ page_size
  pub count : line_count page ≡ length items
  pub each : (k : ℕ) (item : List ℕ) → slice_get items k ≡ Some item → item_at page (1 + k) ≡ Some item
  pub all : items_on page ≡ items
  pub special_starts : special_of page ≡ page_size - length special
  pub special_is : special_space_of page ≡ special

-- the page that is made of items is read as them
abbrev pub ItemsAreRead : Type 0
ItemsAreRead =
    (special : List ℕ) (items : List (List ℕ)) → HaveRoomBefore special items
    → IsReadAs (item_page special items) special items

-- and so is the page whose first item lies lowest
abbrev pub LowestIsReadFirst : Type 0
LowestIsReadFirst =
    (special first : List ℕ) (items : List (List ℕ)) → HaveRoomBefore special (first ∷ items)
    → IsReadAs (first_lowest_page special first items) special (first ∷ items)
