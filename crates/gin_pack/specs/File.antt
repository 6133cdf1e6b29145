-- A GIN file and the map that it is (ginbuild of gininsert.c): the meta page, the entry tree with its root at block 1, and
-- the posting trees of entries with long lists.
use Rattle.std.specs.Prelude.{◌≡◌, ℕ, ◌+◌, ◌*◌, ◌<◌, ◌≤◌, Option, Some, None, List, [], ◌∷◌, ◌++◌, length, map, Any}
use Rattle.std.specs.List.{AllByRecursion, flat_map, range_with_len, sum_by}
use Rattle.std.specs.List.Sorted.{IsPermutation}
use Rattle.pg_bytes.specs.Blocks.{block_at, block_count}
use Rattle.pg_bytes.specs.PageLayout.{page_size}
use Rattle.pg_bytes.specs.declared.row_ptr.RowPtr.{RowPtr}
use Rattle.opclass.specs.declared.types.ColType.{ColType}
use Rattle.gin_entry.specs.declared.entry.Entry.{Entry}
use Rattle.gin_entry.specs.EntryMap.{IsMapOf, Posting}
use Rattle.gin_entry.specs.EntryOrder.{columns_of}
use Rattle.shared_tape.specs.declared.stored.Record.{Record}
use Rattle.posting_tree.specs.Levels.{IsRootOf, IsTree, Node, Tree, items_of, no_link, nodes_of}
use Rattle.posting_tree.specs.PostingTree.{IsPostingTree, inner_kind as list_inner_kind, leaf_kind as list_leaf_kind}
use Rattle.posting_tree.specs.Reading.{StandIn}
use Rattle.gin_file.specs.EntryTree.{Item, inner_kind, leaf_kind}
use Rattle.gin_file.specs.EntryTuple.{list_size, list_tuple, most_size, tree_tuple}
use Rattle.gin_file.specs.Meta.{meta_page}
use Rattle.gin_file.specs.Reading.{IsReadAsPostings}

-- ---- the map of sorted entries

-- an entry leads to a pointer where a record says so
abbrev pub Leads : List Record → Entry → RowPtr → Type 0
Leads records entry pointer = Any (λ row. (row.keys ≡ columns_of entry) × (row.ptr ≡ pointer)) records

-- ---- how a file is built

-- a posting tree, and its root
pub record ListTree : Type 0 where
  pub tree : Tree (List RowPtr) RowPtr
  pub root : ℕ

-- an entry with its pointers, and the tree in which they stand, unless they stand in the entry's tuple
pub record Stored : Type 0 where
  pub posting : Posting
  pub apart : Option ListTree

-- its tuple on a leaf
abbrev pub tuple_of : ColType → Stored → List ℕ
tuple_of kind stored = elim stored.apart [
  | None ↦ list_tuple kind stored.posting.entry stored.posting.pointers
  | Some apart ↦ tree_tuple kind stored.posting.entry apart.root
]

abbrev pub item_of : ColType → Stored → Item
item_of kind stored = record { entry = stored.posting.entry; tuple = tuple_of kind stored }

-- the pages of its posting tree, if it has one
abbrev pub nodes_apart : Stored → List Node
nodes_apart stored = elim stored.apart [
  | None ↦ []
  | Some apart ↦ nodes_of list_leaf_kind list_inner_kind apart.tree
]

-- and how many they are
abbrev pub pages_apart : Stored → ℕ
pages_apart stored = length (nodes_apart stored)

-- the blocks of pages
abbrev pub blocks_of : List Node → List ℕ
blocks_of nodes = map (λ node. node.block) nodes

-- the blocks of what a file has: of the meta page, of the pages of the entry tree, and of those of posting trees
abbrev pub blocks_had : ColType → Tree Item Entry → List Stored → List ℕ
blocks_had kind tree stored =
    0 ∷ (blocks_of (nodes_of leaf_kind (inner_kind kind) tree) ++ blocks_of (flat_map nodes_apart stored))

-- A posting tree stands in a file, and there had to be one: with the list the entry's tuple would be too large.
pub record StandsApart (kind : ColType) (file : List ℕ) (posting : Posting) (apart : ListTree) : Type 0 where
  pub large : most_size < list_size kind posting.entry posting.pointers
  pub tree : IsPostingTree apart.tree posting.pointers
  pub root : IsRootOf apart.tree apart.root
  pub stands : StandIn file (nodes_of list_leaf_kind list_inner_kind apart.tree)

-- an entry's list stands in its tuple where that isn't too large, and else in a posting tree
abbrev pub IsStored : ColType → List ℕ → Stored → Type 0
IsStored kind file stored = elim stored.apart [
  | None ↦ list_size kind stored.posting.entry stored.posting.pointers ≤ most_size
  | Some apart ↦ StandsApart kind file stored.posting apart
]

-- A file has these postings, and nothing but what it needs for them: the entry tree has their tuples, its root is block
-- 1, and the meta page counts the blocks, the pages of the one tree and of the others, and the entries. Each block of the
-- file stands in one place: it is the meta page's or that of one page of one tree.
pub record HasPostings (kind : ColType) (file : List ℕ) (postings : List Posting) : Type 0 where
  pub stored : List Stored
  pub postings_are : map (λ each. each.posting) stored ≡ postings
  pub lists : AllByRecursion (IsStored kind file) stored
  pub tree : Tree Item Entry
  pub levels : IsTree leaf_kind (inner_kind kind) tree
  pub items : items_of tree.leaves ≡ map (item_of kind) stored
  pub root : IsRootOf tree 1
  pub stands : StandIn file (nodes_of leaf_kind (inner_kind kind) tree)
  pub each_once : IsPermutation (blocks_had kind tree stored) (range_with_len 0 (block_count file))
  pub meta : block_at 0 file ≡ meta_page (record {
    blocks = 1 + (length (nodes_of leaf_kind (inner_kind kind) tree) + sum_by pages_apart stored);
    entry_pages = length (nodes_of leaf_kind (inner_kind kind) tree);
    data_pages = sum_by pages_apart stored;
    entries = length stored;
  })
  pub blocks : length file ≡ (1 + (length (nodes_of leaf_kind (inner_kind kind) tree) + sum_by pages_apart stored)) * page_size
  pub numbered : block_count file ≤ no_link

-- The file of sorted entries: it is read as their map, and built as a GIN index is.
pub record IsGinFile (kind : ColType) (records : List Record) (file : List ℕ) : Type 0 where
  pub postings : List Posting
  pub map_is : IsMapOf (Leads records) postings
  pub read : IsReadAsPostings kind file postings
  pub built : HasPostings kind file postings
