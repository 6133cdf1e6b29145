-- The HOT chains of a heap page (heap_get_root_tuples of pruneheap.c, README.HOT). An item is told by its line
-- pointer's number.
use Rattle.std.specs.Prelude.{◌≡◌, ℕ, zero, suc, List, IsTrue, Bool, not, ◌&&◌}
use Rattle.pg_bytes.specs.Lines.{line_at}
use Rattle.heap_page.specs.Infomask.{has_hot_update, is_heap_only, xmax_invalid, xmin_aborted}
use Rattle.heap_page.specs.Line.{IsNormal, IsRedirect}
use Rattle.heap_page.specs.Tuple.{header_of}
use Rattle.heap_page.specs.declared.header.Header.{Header}

-- HeapTupleHeaderIsHotUpdated: its newer version is on the same page, unless the update or the insert aborted
abbrev pub is_hot_updated : Header → Bool
is_hot_updated header =
    has_hot_update header.infomask2 && (not (xmax_invalid header.infomask) && not (xmin_aborted header.infomask))

-- HeapTupleHeaderIsHeapOnly: no index points at the item itself
abbrev pub IsHeapOnly : List ℕ → ℕ → Type 0
IsHeapOnly page item = IsTrue (is_heap_only (header_of page item).infomask2)

-- The item that a chain goes on with: the one that the ctid's offset names, where its inserter is the other's updater.
pub record Follows (page : List ℕ) (item next : ℕ) : Type 0 where
  pub updated : IsTrue (is_hot_updated (header_of page item))
  pub named : next ≡ (header_of page item).ctid.offset
  pub normal : IsNormal page next
  pub same : (header_of page next).xmin ≡ (header_of page item).xmax

-- a chain ends at the item
abbrev pub IsLast : List ℕ → ℕ → Type 0
IsLast page item = (next : ℕ) → Follows page item next → ⊥

-- The item with which a start's chain begins: a normal item that isn't heap-only begins its own chain, a redirect
-- the chain of the normal item that it leads to.
pub data IsHead (page : List ℕ) (start head : ℕ) : Type 0 where
  Own : IsNormal page start → (IsHeapOnly page start → ⊥) → head ≡ start → IsHead page start head
  Redirected : IsRedirect page start → head ≡ (line_at page start).offset → IsNormal page head → IsHead page start head

-- no chain begins at the line pointer
abbrev pub IsNoStart : List ℕ → ℕ → Type 0
IsNoStart page start = (head : ℕ) → IsHead page start head → ⊥

-- one item is so many steps along the chain behind another
abbrev pub IsBehind : List ℕ → ℕ → ℕ → ℕ → Type 0
IsBehind page item zero later = item ≡ later
IsBehind page item (suc steps) later = (next : ℕ) × Follows page item next × IsBehind page next steps later

-- the item is a member of the start's chain, the head and what follows it
abbrev pub HasMember : List ℕ → ℕ → ℕ → Type 0
HasMember page start item = (head : ℕ) × IsHead page start head × ((steps : ℕ) × IsBehind page head steps item)

-- no chain has the item
abbrev pub IsInNoChain : List ℕ → ℕ → Type 0
IsInNoChain page item = (start : ℕ) → HasMember page start item → ⊥
