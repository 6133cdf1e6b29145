-- The roots of a page's rows: the line pointer under which an index has the row (heap_get_root_tuples of pruneheap.c,
-- heapam_index_build_range_scan of heapam_handler.c).
use Rattle.std.specs.Prelude.{◌≡◌, ◌⊎◌, ℕ, ◌<◌, ◌≤◌, List, All, AllPairs, Any, Some}
use Rattle.pg_bytes.specs.LeastFault.{IsLeastFault}
use Rattle.heap_page.specs.Line.{IsNormal}
use Rattle.heap_page.specs.Tuple.{header_of}
use Rattle.heap_page.specs.Visibility.{state_of}
use Rattle.heap_page.specs.declared.row_state.RowState.TheVariants.{Live}
use Rattle.hot_chain.specs.Chain.{IsHeapOnly, HasMember, IsInNoChain}
use Rattle.hot_chain.specs.declared.fault.RootCause.{RootCause}
use Rattle.hot_chain.specs.declared.fault.RootFault.{RootFault}
use Rattle.hot_chain.specs.declared.fault.RootFault.TheVariants.{Item, Memory}
use Rattle.hot_chain.specs.declared.fault.RootCause.TheVariants.{Orphan, SharedRoot}

-- the item is a row of the table
abbrev pub IsLive : List ℕ → ℕ → Type 0
IsLive page item = IsNormal page item × (state_of (header_of page item).infomask ≡ Some Live)

-- of the starts whose chain has the item this is the greatest
abbrev pub IsGreatestStart : List ℕ → ℕ → ℕ → Type 0
IsGreatestStart page item start = HasMember page start item × ((other : ℕ) → HasMember page other item → other ≤ start)

-- the root of an item: itself, or of a heap-only item the greatest start whose chain has it
abbrev pub IsRoot : List ℕ → ℕ → ℕ → Type 0
IsRoot page item root =
    ((IsHeapOnly page item → ⊥) × (root ≡ item)) ⊎ (IsHeapOnly page item × IsGreatestStart page item root)

-- a row of the page: the item that is live, and its root
pub record Row : Type 0 where
  pub item : ℕ
  pub root : ℕ

-- These are the page's rows: each live item once, ascending, with its root, and nothing else.
pub record AreRows (page : List ℕ) (rows : List Row) : Type 0 where
  pub each : All (λ (row : Row). IsLive page row.item × IsRoot page row.item row.root) rows
  pub ascending : AllPairs (λ (row later : Row). row.item < later.item) rows
  pub all : (item : ℕ) → IsLive page item → Any (λ (row : Row). row.item ≡ item) rows

-- a live heap-only item that no chain has
abbrev pub IsOrphan : List ℕ → ℕ → Type 0
IsOrphan page item = IsLive page item × IsHeapOnly page item × IsInNoChain page item

-- a lesser live item has this root
abbrev pub IsRootOfLesser : List ℕ → ℕ → ℕ → Type 0
IsRootOfLesser page item root = (lesser : ℕ) × (lesser < item) × IsLive page lesser × IsRoot page lesser root

-- a live item whose root a lesser live item has too
abbrev pub SharesRoot : List ℕ → ℕ → Type 0
SharesRoot page item = IsLive page item × ((root : ℕ) × IsRoot page item root × IsRootOfLesser page item root)

-- what can be wrong with a page's chains
abbrev pub HasChainFault : List ℕ → ℕ → RootCause → Type 0
HasChainFault page item Orphan = IsOrphan page item
HasChainFault page item SharedRoot = SharesRoot page item

-- the number by which a cause is told
abbrev pub number_of_root_cause : RootCause → ℕ
number_of_root_cause Orphan = 5
number_of_root_cause SharedRoot = 6

-- no fault at all
abbrev pub HasSoundChains : List ℕ → Type 0
HasSoundChains page = (item : ℕ) (cause : RootCause) → HasChainFault page item cause → ⊥

-- the least fault of the page's chains, told by its item and the number of its cause
abbrev pub IsLeastChainFault : List ℕ → ℕ → ℕ → Type 0
IsLeastChainFault page item cause = IsLeastFault number_of_root_cause (HasChainFault page) item cause

-- why the roots of a page aren't found
abbrev pub IsRootFault : List ℕ → RootFault → Type 0
IsRootFault page (Item item cause) = IsLeastChainFault page item cause
IsRootFault page Memory = Unit {0}
