-- What a pass over a page's items knows of faults: items are asked in ascending order, and each by its least cause.
use Rattle.std.specs.Prelude.{◌≡◌, ℕ, ◌<◌, ◌≤◌, List}
use Rattle.heap_page.specs.Fault.{BreaksRule, number_of_page_cause}
use Rattle.heap_page.specs.declared.fault.PageCause.{PageCause}
use Rattle.heap_page.specs.declared.fault.PageFault.{PageFault}

-- an item has no fault
pub record IsSoundAt (page : List ℕ) (columns item : ℕ) : Type 0 where
  pub none : (cause : PageCause) → BreaksRule page columns item cause → ⊥

-- no item below this one has a fault
pub record IsSoundBelow (page : List ℕ) (columns item : ℕ) : Type 0 where
  pub none : (lesser : ℕ) (cause : PageCause) → lesser < item → BreaksRule page columns lesser cause → ⊥

-- the least cause of an item's faults
pub record IsLeastCause (page : List ℕ) (columns item : ℕ) (cause : PageCause) : Type 0 where
  pub there : BreaksRule page columns item cause
  pub least : (other : PageCause) → BreaksRule page columns item other
      → number_of_page_cause cause ≤ number_of_page_cause other

-- the fault that is told is the item's least
pub record IsFaultAt (page : List ℕ) (columns item : ℕ) (fault : PageFault) : Type 0 where
  pub here : fault.item ≡ item
  pub cause : PageCause
  pub told : fault.cause ≡ number_of_page_cause cause
  pub least : IsLeastCause page columns item cause
