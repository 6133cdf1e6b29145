-- What is read of a page by its line pointers, which are counted from 1 (bufpage.h, itemid.h).
use Rattle.std.specs.Prelude.{◌≡◌, ℕ, ◌+◌, ◌-◌, ◌/◌, ◌≤◌, Bool, if◌then◌else◌, nat_eq, nat_le, ◌&&◌}
use Rattle.std.specs.Prelude.{Option, Some, None, List, take, drop, filter_map}
use Rattle.std.specs.List.{range_with_len}
use Rattle.pg_bytes.specs.Numbers.{number_at}
use Rattle.pg_bytes.specs.PageLayout.{page_size, header_size, line_pointer_size, lower_of, line_place}
use Rattle.pg_bytes.specs.Pointers.{line_pointer_of, number_of_state}
use Rattle.pg_bytes.specs.declared.line_ptr.LinePtr.{LinePtr}
use Rattle.pg_bytes.specs.declared.line_ptr.LineState.TheVariants.{Normal}

-- PageGetMaxOffsetNumber: how many line pointers a page has, none where pd_lower is within the header
abbrev pub line_count : List ℕ → ℕ
line_count page = (lower_of page - header_size) / line_pointer_size

-- PageGetItemId: the line pointer of this number
abbrev pub line_at : List ℕ → ℕ → LinePtr
line_at page line = line_pointer_of (number_at line_pointer_size page (line_place line))

-- the line pointer's bytes end on the page
abbrev pub EndsInside : LinePtr → Type 0
EndsInside line = line.offset + line.length ≤ page_size

-- PageGetItem: the bytes of a page to which a line pointer leads
abbrev pub bytes_of : List ℕ → LinePtr → List ℕ
bytes_of page line = take line.length (drop line.offset page)

-- an item stands on the page under this line pointer, which is normal
pub record HasItem (page : List ℕ) (line : ℕ) : Type 0 where
  pub counted : (1 ≤ line) × (line ≤ line_count page)
  pub normal : (line_at page line).state ≡ number_of_state Normal
  pub inside : EndsInside (line_at page line)

-- whether one does
abbrev pub has_item : List ℕ → ℕ → Bool
has_item page line =
    (nat_le 1 line && nat_le line (line_count page))
    && (nat_eq (line_at page line).state (number_of_state Normal)
    && nat_le ((line_at page line).offset + (line_at page line).length) page_size)

-- the item's bytes, if one does
unfoldable pub item_at : List ℕ → ℕ → Option (List ℕ)
item_at page line = if has_item page line then Some (bytes_of page (line_at page line)) else None

-- the items of a page in the order of their line pointers
unfoldable pub items_on : List ℕ → List (List ℕ)
items_on page = filter_map (item_at page) (range_with_len 1 (line_count page))
