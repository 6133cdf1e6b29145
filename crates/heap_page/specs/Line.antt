-- The line pointers of a heap page (bufpage.h, itemid.h). An item is told by its line pointer's number, from 1.
use Rattle.std.specs.Prelude.{◌≡◌, ℕ, ◌+◌, ◌<◌, ◌≤◌, ◌==◌, if◌then◌else◌, List}
use Rattle.pg_bytes.specs.Lines.{line_at, line_count}
use Rattle.pg_bytes.specs.PageLayout.{upper_of}
use Rattle.pg_bytes.specs.Pointers.{number_of_state}
use Rattle.pg_bytes.specs.declared.line_ptr.LinePtr.{LinePtr}
use Rattle.pg_bytes.specs.declared.line_ptr.LineState.TheVariants.{Normal, Redirect}

-- PageIsNew: nothing was put on the page yet
abbrev pub IsNew : List ℕ → Type 0
IsNew page = upper_of page ≡ 0

-- how many line pointers a heap page has: none where it is new, whatever pd_lower says
abbrev pub heap_line_count : List ℕ → ℕ
heap_line_count page = if upper_of page == 0 then 0 else line_count page

-- the page has a line pointer of this number
abbrev pub IsLine : List ℕ → ℕ → Type 0
IsLine page item = (1 ≤ item) × (item ≤ heap_line_count page)

-- ItemIdIsNormal: it leads to a tuple of the page
abbrev pub IsNormal : List ℕ → ℕ → Type 0
IsNormal page item = IsLine page item × ((line_at page item).state ≡ number_of_state Normal)

-- ItemIdIsRedirected: its offset is the number of another line pointer
abbrev pub IsRedirect : List ℕ → ℕ → Type 0
IsRedirect page item = IsLine page item × ((line_at page item).state ≡ number_of_state Redirect)

-- the line pointer's bytes include the one at this place
abbrev pub HasByte : LinePtr → ℕ → Type 0
HasByte line place = (line.offset ≤ place) × (place < line.offset + line.length)

-- two line pointers lead to a byte in common
abbrev pub ShareByte : LinePtr → LinePtr → Type 0
ShareByte a b = (place : ℕ) × HasByte a place × HasByte b place
