-- What follows from the definitions alone.
use Rattle.std.specs.Prelude.{◌≡◌, ◌≢◌, ℕ, List}
use Rattle.pg_bytes.specs.Lines.{EndsInside, line_at}
use Rattle.heap_page.specs.Fault.{IsLeastPageFault, IsSoundPage}
use Rattle.heap_page.specs.Line.{IsNormal, ShareByte}
use Rattle.heap_page.specs.Settled.{AllSettled}
use Rattle.heap_page.specs.declared.fault.PageFault.{PageFault}

-- a page has one least fault at most
abbrev pub LeastPageFaultIsOne : Type 0
LeastPageFaultIsOne =
    (page : List ℕ) (columns : ℕ) (a b : PageFault)
    → IsLeastPageFault page columns a → IsLeastPageFault page columns b → a ≡ b

-- no two tuples of a sound page share a byte
abbrev pub ItemsAreApart : Type 0
ItemsAreApart =
    (page : List ℕ) (columns a b : ℕ) → IsSoundPage page columns
    → IsNormal page a → IsNormal page b → a ≢ b → ShareByte (line_at page a) (line_at page b) → ⊥

-- each tuple of a sound page ends on the page
abbrev pub ItemsEndInside : Type 0
ItemsEndInside =
    (page : List ℕ) (columns item : ℕ) → IsSoundPage page columns → IsNormal page item → EndsInside (line_at page item)

-- the hint bits of each tuple of a sound page say whether it is a row
abbrev pub ItemsAreSettled : Type 0
ItemsAreSettled = (page : List ℕ) (columns : ℕ) → IsSoundPage page columns → AllSettled page
