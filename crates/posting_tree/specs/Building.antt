-- What the building of a posting tree keeps: levels of pages on consecutive blocks, from the leaves up.
use Rattle.std.specs.Prelude.{◌≡◌, ℕ, ◌+◌, ◌*◌, ◌<◌, ◌≤◌, Option, Some, List, [], ◌∷◌, ◌++◌, length, map}
use Rattle.std.specs.List.{AllByRecursion, flat_map, range_with_len}
use Rattle.pg_bytes.specs.Blocks.{block_count}
use Rattle.pg_bytes.specs.declared.row_ptr.RowPtr.{RowPtr}
use Rattle.posting_tree.specs.Levels.{AreAbove, AreLevel, Downlink, IsPage, Kind, Node, Page, fill, greatest, items_of, least_fill, nodes_linked, nodes_of_level, to_say, top_of}
use Rattle.posting_tree.specs.PostingTree.{inner_kind, leaf_kind}
use Rattle.posting_tree.specs.Segments.{IsPart, segment}

-- the bytes of pages, one behind the other
abbrev pub bytes_of : List Node → List ℕ
bytes_of nodes = flat_map (λ node. node.bytes) nodes

-- what there is to say of pages on consecutive blocks with these greatest pointers
abbrev pub told_from : ℕ → List RowPtr → List (ℕ × Option RowPtr)
told_from block [] = []
told_from block (key ∷ keys) = (block, Some key) ∷ told_from (block + 1) keys

-- the items that lead to pages on consecutive blocks with these greatest pointers
abbrev pub links_from : ℕ → List RowPtr → List (Downlink RowPtr)
links_from child [] = []
links_from child (key ∷ keys) = record { child = child; key = key } ∷ links_from (child + 1) keys

-- a page that may have a right neighbour
pub record IsFilled {Item : Type 0} (kind : Kind Item RowPtr) (page : Page Item) : Type 0 where
  pub is_page : IsPage kind page
  pub filled : least_fill ≤ fill kind page.items

-- The pages of a level that have a right neighbour, put behind old bytes, with these greatest pointers and items: the
-- right link of the last is the block that comes next.
pub record PagesPut {Item : Type 0} (kind : Kind Item RowPtr) (old new : List ℕ) (first : ℕ) (keys : List RowPtr)
    (items : List Item) : Type 0 where
  pub pages : List (Page Item)
  pub filled : AllByRecursion (IsFilled kind) pages
  pub told : map (to_say kind) pages ≡ told_from first keys
  pub items_are : items_of pages ≡ items
  pub bytes : new ≡ old ++ bytes_of (nodes_linked kind (first + length keys) pages)

-- a level as a whole, put behind old bytes
pub record LevelPut {Item : Type 0} (kind : Kind Item RowPtr) (old new : List ℕ) (first : ℕ) (keys : List RowPtr)
    (items : List Item) : Type 0 where
  pub pages : List (Page Item)
  pub level : AreLevel kind pages
  pub told : map (to_say kind) pages ≡ told_from first keys
  pub items_are : items_of pages ≡ items
  pub bytes : new ≡ old ++ bytes_of (nodes_of_level kind pages)

-- Leaves under way: those that are put, and the content of the next one, with its greatest pointer.
pub record LeavesPut (old new : List ℕ) (first : ℕ) (keys : List RowPtr) (content : List ℕ) (last : RowPtr)
    (taken : List RowPtr) : Type 0 where
  pub parts : List (List RowPtr)
  pub open_parts : List (List RowPtr)
  pub put : PagesPut leaf_kind old new first keys parts
  pub each : AllByRecursion IsPart (parts ++ open_parts)
  pub whole : taken ≡ flat_map (λ part. part) (parts ++ open_parts)
  pub content_is : content ≡ flat_map segment open_parts
  pub last_is : 0 < length content → greatest leaf_kind open_parts ≡ Some last
  pub few : 4 * length keys ≤ length (flat_map (λ part. part) parts)

-- a step from leaves under way to the same with these pointers more
abbrev pub LeavesTake : List ℕ → List ℕ → ℕ → ℕ → List RowPtr → List RowPtr → List ℕ → List ℕ → RowPtr → RowPtr → List RowPtr
    → Type 0
LeavesTake now next first first' keys keys' content content' last last' part =
    (old : List ℕ) (taken : List RowPtr) → LeavesPut old now first keys content last taken
    → LeavesPut old next first' keys' content' last' (taken ++ part)

-- the leaves of a tree as a whole, put behind old bytes
pub record LeafLevelPut (old new : List ℕ) (first : ℕ) (keys ptrs : List RowPtr) : Type 0 where
  pub parts : List (List RowPtr)
  pub put : LevelPut leaf_kind old new first keys parts
  pub each : AllByRecursion IsPart parts
  pub whole : ptrs ≡ flat_map (λ part. part) parts
  pub few : 4 * length keys ≤ length ptrs + 4

-- the levels of a tree up to one on consecutive blocks with these greatest pointers, put behind old bytes
pub record TreePut (old new : List ℕ) (first : ℕ) (keys ptrs : List RowPtr) : Type 0 where
  pub leaves : List (Page (List RowPtr))
  pub middle : List (List (Page (Downlink RowPtr)))
  pub level : AreLevel leaf_kind leaves
  pub parts : AllByRecursion IsPart (items_of leaves)
  pub whole : ptrs ≡ flat_map (λ part. part) (items_of leaves)
  pub above : (more : List (List (Page (Downlink RowPtr)))) → AreAbove inner_kind (told_from first keys) more
      → AreAbove inner_kind (map (to_say leaf_kind) leaves) (middle ++ more)
  pub top : (more : List (List (Page (Downlink RowPtr)))) → top_of (map (λ page. page.block) leaves) (middle ++ more)
      ≡ top_of (range_with_len first (length keys)) more
  pub blocks : map (λ node. node.block) (nodes_of_level leaf_kind leaves ++ flat_map (nodes_of_level inner_kind) middle)
      ≡ range_with_len (block_count old) (length (nodes_of_level leaf_kind leaves ++ flat_map (nodes_of_level inner_kind) middle))
  pub next : first + length keys
      ≡ block_count old + length (nodes_of_level leaf_kind leaves ++ flat_map (nodes_of_level inner_kind) middle)
  pub bytes : new ≡ old ++ bytes_of (nodes_of_level leaf_kind leaves ++ flat_map (nodes_of_level inner_kind) middle)

-- a list is another with one pointer more, which was asked for
abbrev pub IsPushed : List RowPtr → List RowPtr → Option RowPtr → Type 0
IsPushed old new asked = (key : RowPtr) × (asked ≡ Some key) × (new ≡ old ++ key ∷ [])
