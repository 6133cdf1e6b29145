-- What is wrong with a heap page by itself: with its header (cause 1), or with an item (causes 2 to 4).
use Rattle.std.specs.Prelude.{◌≡◌, ◌≢◌, ◌⊎◌, ℕ, ◌+◌, ◌%◌, ◌<◌, ◌≤◌, List, IsTrue, IsNone}
use Rattle.pg_bytes.specs.LeastFault.{IsLeastFault}
use Rattle.pg_bytes.specs.Lines.{EndsInside, line_at}
use Rattle.pg_bytes.specs.Numbers.{number_at}
use Rattle.pg_bytes.specs.PageLayout.{page_size, header_size, version_place, version_word}
use Rattle.pg_bytes.specs.PageLayout.{header_flags_of, lower_of, special_of, upper_of}
use Rattle.heap_page.specs.Infomask.{attributes_of, has_nulls}
use Rattle.heap_page.specs.Layout.{flags_end, alignment, least_header, bitmap_place, bitmap_size}
use Rattle.heap_page.specs.Line.{IsNew, heap_line_count, IsNormal, IsRedirect, ShareByte}
use Rattle.heap_page.specs.Tuple.{header_of}
use Rattle.heap_page.specs.Visibility.{state_of}
use Rattle.pg_bytes.specs.declared.line_ptr.LinePtr.{LinePtr}
use Rattle.heap_page.specs.declared.fault.PageCause.{PageCause}
use Rattle.heap_page.specs.declared.fault.PageCause.TheVariants.{BadHeader, BadLine, BadTuple, Unsettled}
use Rattle.heap_page.specs.declared.fault.PageFault.{PageFault}
use Rattle.heap_page.specs.declared.header.Header.{Header}

-- The header isn't that of a heap page. PageIsVerified (bufpage.c) asks that the flags are flags, and that pd_lower,
-- pd_upper, pd_special and the page's end stand in this order. This project asks more of a heap page: its size and
-- layout version, no special space, and a pd_lower that isn't inside the header.
abbrev pub HasBadHeader : List ℕ → Type 0
HasBadHeader page =
    (number_at 2 page version_place ≢ version_word)
    ⊎ (flags_end ≤ header_flags_of page)
    ⊎ (special_of page ≢ page_size)
    ⊎ (lower_of page < header_size)
    ⊎ (upper_of page < lower_of page)
    ⊎ (page_size < upper_of page)

-- a lesser normal item that ends on the page shares a byte with this one
abbrev pub SharesWithLesser : List ℕ → ℕ → Type 0
SharesWithLesser page item =
    (lesser : ℕ) × (lesser < item) × IsNormal page lesser
    × EndsInside (line_at page lesser) × ShareByte (line_at page lesser) (line_at page item)

-- a line pointer leads to no aligned place for a tuple from the page's upper bound on
abbrev pub IsOutOfPlace : List ℕ → LinePtr → Type 0
IsOutOfPlace page line =
    (line.offset % alignment ≢ 0)
    ⊎ (line.offset < upper_of page)
    ⊎ (page_size < line.offset + line.length)
    ⊎ (line.length < least_header)

-- a normal line pointer leads to no tuple's place of its own
abbrev pub IsMisplaced : List ℕ → ℕ → Type 0
IsMisplaced page item = IsOutOfPlace page (line_at page item) ⊎ SharesWithLesser page item

-- a redirect leads to no line pointer of the page
abbrev pub IsAstray : List ℕ → ℕ → Type 0
IsAstray page item = ((line_at page item).offset ≡ 0) ⊎ (heap_line_count page < (line_at page item).offset)

-- a tuple's header doesn't fit its length or the table's number of columns
abbrev pub IsUnfit : Header → ℕ → ℕ → Type 0
IsUnfit header length columns =
    (header.hoff < least_header)
    ⊎ (header.hoff % alignment ≢ 0)
    ⊎ (length < header.hoff)
    ⊎ (columns < attributes_of header.infomask2)
    ⊎ (IsTrue (has_nulls header.infomask)
    × (header.hoff < bitmap_place + bitmap_size (attributes_of header.infomask2)))

abbrev pub HasBadTuple : List ℕ → ℕ → ℕ → Type 0
HasBadTuple page columns item = IsUnfit (header_of page item) (line_at page item).length columns

-- an item of a page that is used breaks the rule of a cause, whatever else is wrong: item 0 is the page's header
abbrev pub BreaksRule : List ℕ → ℕ → ℕ → PageCause → Type 0
BreaksRule page columns item BadHeader = (item ≡ 0) × HasBadHeader page
BreaksRule page columns item BadLine =
    (IsNormal page item × IsMisplaced page item) ⊎ (IsRedirect page item × IsAstray page item)
BreaksRule page columns item BadTuple = IsNormal page item × HasBadTuple page columns item
BreaksRule page columns item Unsettled = IsNormal page item × IsNone (state_of (header_of page item).infomask)

-- the page has this fault, and a new page has none
abbrev pub HasPageFault : List ℕ → ℕ → ℕ → PageCause → Type 0
HasPageFault page columns item cause = (IsNew page → ⊥) × BreaksRule page columns item cause

-- the number by which a cause is told
abbrev pub number_of_page_cause : PageCause → ℕ
number_of_page_cause BadHeader = 1
number_of_page_cause BadLine = 2
number_of_page_cause BadTuple = 3
number_of_page_cause Unsettled = 4

-- no fault at all
abbrev pub IsSoundPage : List ℕ → ℕ → Type 0
IsSoundPage page columns = (item : ℕ) (cause : PageCause) → HasPageFault page columns item cause → ⊥

-- the least of the page's faults: the least item, and at that item the least cause
abbrev pub IsLeastPageFault : List ℕ → ℕ → PageFault → Type 0
IsLeastPageFault page columns fault =
    IsLeastFault number_of_page_cause (HasPageFault page columns) fault.item fault.cause
