-- The map that a pass over a page's items keeps: which of the page's units of eight bytes, its alignment, belong to an
-- item that was asked before.
use Rattle.std.specs.Prelude.{◌≡◌, ◌↔◌, ℕ, ◌+◌, ◌-◌, ◌%◌, ◌/◌, ◌<◌, ◌≤◌, Bool, true, List, Some, slice_get}
use Rattle.pg_bytes.specs.Lines.{EndsInside, line_at}
use Rattle.pg_bytes.specs.declared.line_ptr.LinePtr.{LinePtr}
use Rattle.heap_page.specs.Layout.{alignment}
use Rattle.heap_page.specs.Line.{IsNormal}

-- an item has a part in a unit
abbrev pub HasUnit : LinePtr → ℕ → Type 0
HasUnit line unit =
    (line.offset / alignment ≤ unit) × (unit < (line.offset + line.length + (alignment - 1)) / alignment)

-- a unit is marked
abbrev pub IsMarked : List Bool → ℕ → Type 0
IsMarked marked unit = slice_get marked unit ≡ Some true

-- a unit belongs to a normal item below this one
abbrev pub IsTakenBelow : List ℕ → ℕ → ℕ → Type 0
IsTakenBelow page item unit =
    (lesser : ℕ) × (lesser < item) × IsNormal page lesser × HasUnit (line_at page lesser) unit

-- The marked units are those of the normal items below this one, each of which stands aligned on the page.
pub record IsMapBelow (page : List ℕ) (item : ℕ) (marked : List Bool) : Type 0 where
  pub marks : (unit : ℕ) → IsMarked marked unit ↔ IsTakenBelow page item unit
  pub aligned : (lesser : ℕ) → lesser < item → IsNormal page lesser → (line_at page lesser).offset % alignment ≡ 0
  pub inside : (lesser : ℕ) → lesser < item → IsNormal page lesser → EndsInside (line_at page lesser)
