-- The faults of a heap's blocks and the rows of an index over them (heapam_index_build_range_scan of heapam_handler.c).
use Rattle.std.specs.Prelude.{◌≡◌, ℕ, ◌<◌, List, [], ◌∷◌, ◌++◌, length}
use Rattle.std.specs.List.{range_with_len}
use Rattle.pg_bytes.specs.Blocks.{block_at, block_count}
use Rattle.pg_bytes.specs.LeastFault.{IsLeastFault}
use Rattle.opclass.specs.declared.spec.IndexSpec.{IndexSpec}
use Rattle.opclass.specs.declared.table.Table.{Table}
use Rattle.heap_page.specs.Fault.{IsLeastPageFault, IsSoundPage}
use Rattle.hot_chain.specs.Roots.{AreRows, HasSoundChains, IsLeastChainFault, Row}
use Rattle.shared_tape.specs.declared.stored.Record.{Record}
use Rattle.build_leader.specs.IndexRow.{AreIndexRows, HasItemFault, ItemCause, number_of_item_cause}

-- no live item of the page has a fault
abbrev pub HasSoundItems : Table → IndexSpec → List ℕ → Type 0
HasSoundItems table spec page = (item : ℕ) (cause : ItemCause) → HasItemFault table spec page item cause → ⊥

-- A block's fault: the least of its page by itself, or else the least of the page's chains, or else the least of its
-- live items.
pub data IsBlockFault (table : Table) (spec : IndexSpec) (page : List ℕ) (item cause : ℕ) : Type 0 where
  OfPage : IsLeastPageFault page (length table.columns) (record { item = item; cause = cause })
      → IsBlockFault table spec page item cause
  OfChains : IsSoundPage page (length table.columns) → IsLeastChainFault page item cause
      → IsBlockFault table spec page item cause
  OfItems : IsSoundPage page (length table.columns) → HasSoundChains page
      → IsLeastFault number_of_item_cause (HasItemFault table spec page) item cause
      → IsBlockFault table spec page item cause

-- neither the page, nor its chains, nor a live item has a fault
pub record IsSoundBlock (table : Table) (spec : IndexSpec) (page : List ℕ) : Type 0 where
  pub sound : IsSoundPage page (length table.columns)
  pub chains : HasSoundChains page
  pub items : HasSoundItems table spec page

-- the blocks below have no fault
abbrev pub AreSoundBelow : Table → IndexSpec → List ℕ → ℕ → Type 0
AreSoundBelow table spec heap block =
    (lesser : ℕ) → lesser < block → IsSoundBlock table spec (block_at lesser heap)

-- the fault of the first block that has one
pub record IsFirstFault (table : Table) (spec : IndexSpec) (heap : List ℕ) (block item cause : ℕ) : Type 0 where
  pub inside : block < block_count heap
  pub first : AreSoundBelow table spec heap block
  pub fault : IsBlockFault table spec (block_at block heap) item cause

-- no block has a fault
abbrev pub HasSoundBlocks : Table → IndexSpec → List ℕ → Type 0
HasSoundBlocks table spec heap = AreSoundBelow table spec heap (block_count heap)

-- the rows of an index in a block, in the order of its items
abbrev pub AreBlockRows : Table → IndexSpec → List ℕ → ℕ → List Record → Type 0
AreBlockRows table spec heap block records =
    (rows : List Row) × AreRows (block_at block heap) rows
    × AreIndexRows table spec (block_at block heap) block rows records

-- the rows of an index in several blocks, block by block
abbrev pub AreRowsOfBlocks : Table → IndexSpec → List ℕ → List ℕ → List Record → Type 0
AreRowsOfBlocks table spec heap [] records = records ≡ []
AreRowsOfBlocks table spec heap (block ∷ blocks) records =
    (here : List Record) × ((others : List Record) × (records ≡ here ++ others)
    × AreBlockRows table spec heap block here × AreRowsOfBlocks table spec heap blocks others)

-- the rows of an index over the heap
abbrev pub AreHeapRows : Table → IndexSpec → List ℕ → List Record → Type 0
AreHeapRows table spec heap records =
    AreRowsOfBlocks table spec heap (range_with_len 0 (block_count heap)) records
