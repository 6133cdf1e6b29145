-- The rows of a page's first items, taken by ascending number.
use Rattle.std.specs.Prelude.{◌≡◌, ℕ, ◌<◌, List, All, AllPairs, Any, Bool, false, IsTrue, length, slice_index_or}
use Rattle.hot_chain.specs.Roots.{IsLive, IsRoot, IsRootOfLesser, Row, HasChainFault}
use Rattle.hot_chain.specs.declared.fault.RootCause.{RootCause}

-- a row that was found is in the index under this line pointer
abbrev pub IsInIndex : List Bool → ℕ → Type 0
IsInIndex in_index root = IsTrue (slice_index_or in_index root false)

-- the rows of the items below a number, which have no fault, and under which line pointers an index has them
pub record AreRowsOfItemsBelow (page : List ℕ) (end : ℕ) (rows : List Row) (in_index : List Bool) : Type 0 where
  pub count : length rows < end
  pub each : All (λ (row : Row). IsLive page row.item × IsRoot page row.item row.root) rows
  pub below : All (λ (row : Row). row.item < end) rows
  pub ascending : AllPairs (λ (row later : Row). row.item < later.item) rows
  pub all : (item : ℕ) → item < end → IsLive page item → Any (λ (row : Row). row.item ≡ item) rows
  pub owned : (root : ℕ) → IsInIndex in_index root → IsRootOfLesser page end root
  pub indexed : (item root : ℕ) → item < end → IsLive page item → IsRoot page item root → IsInIndex in_index root
  pub sound : (item : ℕ) (cause : RootCause) → item < end → HasChainFault page item cause → ⊥
