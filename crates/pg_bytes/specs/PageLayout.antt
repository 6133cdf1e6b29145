-- A page and the writes into it (`PageHeaderData` of bufpage.h, `PageAddItemExtended` of bufpage.c).
use Rattle.std.specs.Prelude.{ℕ, ◌+◌, ◌-◌, ◌*◌, max, List, ◌++◌, length, drop}
use Rattle.pg_bytes.specs.Numbers.{number_at, number_bytes, rounded_up}
use Rattle.pg_bytes.specs.Places.{zeros, written}
use Rattle.pg_bytes.specs.Pointers.{word_of}

-- BLCKSZ: the bytes of a page
abbrev pub page_size : ℕ
page_size = 8192

-- SizeOfPageHeaderData: the bytes of the header, behind which the line pointers stand
abbrev pub header_size : ℕ
header_size = 24

-- sizeof(ItemIdData)
abbrev pub line_pointer_size : ℕ
line_pointer_size = 4

-- where the header's fields stand: pd_flags, pd_lower, pd_upper, pd_special and pd_pagesize_version, two bytes each
abbrev pub flags_place : ℕ
flags_place = 10

abbrev pub lower_place : ℕ
lower_place = 12

abbrev pub upper_place : ℕ
upper_place = 14

abbrev pub special_place : ℕ
special_place = 16

abbrev pub version_place : ℕ
version_place = 18

-- PageSetPageSizeAndVersion: pages of this size in layout version 4, PG_PAGE_LAYOUT_VERSION
abbrev pub version_word : ℕ
version_word = page_size + 4

-- the header's bytes: no LSN, checksum, flags or prune xid
unfoldable pub page_header : ℕ → ℕ → ℕ → List ℕ
page_header lower upper special =
    zeros 12
    ++ (number_bytes 2 lower ++ (number_bytes 2 upper ++ (number_bytes 2 special ++ (number_bytes 2 version_word ++ zeros 4))))

-- a page without items, whose special space of so many bytes is zero
unfoldable pub empty_page : ℕ → List ℕ
empty_page special = page_header header_size (page_size - special) (page_size - special) ++ zeros (page_size - header_size)

-- pd_lower, where the line pointers end
abbrev pub lower_of : List ℕ → ℕ
lower_of page = number_at 2 page lower_place

-- pd_upper, where the items begin
abbrev pub upper_of : List ℕ → ℕ
upper_of page = number_at 2 page upper_place

-- pd_flags
abbrev pub header_flags_of : List ℕ → ℕ
header_flags_of page = number_at 2 page flags_place

-- pd_special, where the special space begins
abbrev pub special_of : List ℕ → ℕ
special_of page = number_at 2 page special_place

-- PageGetSpecialPointer: the special space, the last bytes of the page
abbrev pub special_space_of : List ℕ → List ℕ
special_space_of page = drop (special_of page) page

-- an item's bytes and the zeros up to its alignment
unfoldable pub aligned : List ℕ → List ℕ
aligned item = item ++ zeros (rounded_up 8 (length item) - length item)

-- where line pointer k stands, counted from 1
abbrev pub line_place : ℕ → ℕ
line_place line = (header_size - line_pointer_size) + line_pointer_size * line

-- the word of a normal line pointer
abbrev pub normal_word : ℕ → ℕ → ℕ
normal_word offset size = word_of (record { offset = offset; state = 1; length = size })

-- where an item that is added to the page begins
abbrev pub item_place : List ℕ → List ℕ → ℕ
item_place item page = upper_of page - rounded_up 8 (length item)

-- where the line pointers end once the page has this one
abbrev pub lower_with : ℕ → List ℕ → ℕ
lower_with line page = max (lower_of page) (header_size + line_pointer_size * line)

-- the page after an item was added under a line pointer
unfoldable pub with_item : ℕ → List ℕ → List ℕ → List ℕ
with_item line item page =
    written (number_bytes 2 (lower_with line page)) lower_place
    (written (number_bytes 4 (normal_word (item_place item page) (length item))) (line_place line)
    (written (number_bytes 2 (item_place item page)) upper_place
    (written (aligned item) (item_place item page) page)))
