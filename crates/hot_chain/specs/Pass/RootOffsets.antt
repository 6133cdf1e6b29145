-- What the walks along a page's chains keep, from the greatest start down: at each item's place the first start that
-- came by, which is its root offset (root_offsets of heap_get_root_tuples in pruneheap.c).
use Rattle.std.specs.Prelude.{◌≡◌, ℕ, ◌+◌, ◌≤◌, List, Option, Some, None, length, slice_index_or}
use Rattle.heap_page.specs.Line.{heap_line_count}
use Rattle.hot_chain.specs.Chain.{Follows, HasMember}
use Rattle.hot_chain.specs.Roots.{IsGreatestStart}

-- the root offset that the list has for an item, and None where it has none
abbrev pub root_offset : List (Option ℕ) → ℕ → Option ℕ
root_offset offsets item = slice_index_or offsets item None

-- the list has a root offset for the item
abbrev pub HasRootOffset : List (Option ℕ) → ℕ → Type 0
HasRootOffset offsets item = (start : ℕ) × (root_offset offsets item ≡ Some start)

-- what follows an item that has a root offset has one too
pub record IsClosed (page : List ℕ) (offsets : List (Option ℕ)) : Type 0 where
  pub next : (item next : ℕ) → HasRootOffset offsets item → Follows page item next → HasRootOffset offsets next

-- The items of the start's chain that had no root offset have the start as theirs, and no other item changed.
pub record IsWalked (page : List ℕ) (start : ℕ) (old new : List (Option ℕ)) : Type 0 where
  pub kept : (item other : ℕ) → root_offset old item ≡ Some other → root_offset new item ≡ Some other
  pub given : (item other : ℕ) → root_offset old item ≡ None → root_offset new item ≡ Some other
      → (other ≡ start) × HasMember page start item
  pub reached : (item : ℕ) → HasMember page start item → HasRootOffset new item

-- Each item has the greatest start whose chain has it, and none where no start from a number on has it.
pub record AreGreatestFrom (page : List ℕ) (from : ℕ) (offsets : List (Option ℕ)) : Type 0 where
  pub some : (item start : ℕ) → root_offset offsets item ≡ Some start → IsGreatestStart page item start
  pub none : (item start : ℕ) → root_offset offsets item ≡ None → from ≤ start → HasMember page start item → ⊥

-- each item of the page has its root offset
pub record AreRootOffsets (page : List ℕ) (offsets : List (Option ℕ)) : Type 0 where
  pub room : length offsets ≡ heap_line_count page + 1
  pub greatest : AreGreatestFrom page 1 offsets
