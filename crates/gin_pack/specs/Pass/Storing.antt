-- Entries that are stored: their tuples are on the leaves that are filled, their posting trees in the image.
use Rattle.std.specs.Prelude.{◌≡◌, ℕ, suc, ◌+◌, ◌*◌, ◌≤◌, Option, Some, None, List, [], ◌∷◌, ◌++◌, length, map}
use Rattle.std.specs.List.{AllByRecursion, flat_map, range_with_len, sum_by}
use Rattle.pg_bytes.specs.Blocks.{block_count}
use Rattle.pg_bytes.specs.PageLayout.{page_size}
use Rattle.opclass.specs.declared.types.ColType.{ColType}
use Rattle.gin_entry.specs.EntryMap.{Posting}
use Rattle.posting_tree.specs.Levels.{Node, nodes_of}
use Rattle.posting_tree.specs.PostingTree.{inner_kind as list_inner_kind, leaf_kind as list_leaf_kind}
use Rattle.posting_tree.specs.Special.{leaf_flag}
use Rattle.gin_pack.specs.File.{IsStored, ListTree, Stored, blocks_of, item_of, nodes_apart, pages_apart, tuple_of}
use Rattle.gin_pack.specs.Postings.{IsListed}
use Rattle.gin_pack.specs.Pass.Filling.{IsLevelOf}
use Rattle.gin_pack.specs.declared.store.EntryStore.{EntryStore}

-- a page of a file behind its meta page and its root
pub record IsWithin (file : List ℕ) (node : Node) : Type 0 where
  pub from : 2 ≤ node.block
  pub below : suc node.block * page_size ≤ length file

-- so are the pages of a posting tree
abbrev pub AreWithin : List ℕ → Stored → Type 0
AreWithin file stored = elim stored.apart [
  | None ↦ Unit {0}
  | Some apart ↦ AllByRecursion (IsWithin file) (nodes_of list_leaf_kind list_inner_kind apart.tree)
]

-- an entry stands in a file that grows
pub record IsStoredIn (kind : ColType) (file : List ℕ) (stored : Stored) : Type 0 where
  pub listed : IsListed kind stored.posting
  pub list : IsStored kind file stored
  pub within : AreWithin file stored

-- these entries are stored
pub record HasStored (kind : ColType) (stored : List Stored) (store : EntryStore) : Type 0 where
  pub kind_is : store.kind ≡ kind
  pub lists : AllByRecursion (IsStoredIn kind store.image) stored
  pub level : IsLevelOf kind leaf_flag (map (item_of kind) stored) store.leaves
  pub count : store.entries ≡ length stored
  pub grown : length store.image ≡ (2 + sum_by pages_apart stored) * page_size
  -- the pages of posting trees have the blocks behind the meta page and the root, each once
  pub given : blocks_of (flat_map nodes_apart stored) ≡ range_with_len 2 (sum_by pages_apart stored)

-- some entries are stored
pub record IsStoring (store : EntryStore) : Type 0 where
  pub stored : List Stored
  pub has : HasStored store.kind stored store

-- the tuple of an entry has come into its buffer, and its list into that or into the image
pub record PutsTuple (old new : EntryStore) (posting : Posting) : Type 0 where
  pub apart : Option ListTree
  pub tuple_is : new.tuple.items ≡ tuple_of old.kind (record { posting = posting; apart = apart })
  pub stored : IsStoredIn old.kind new.image (record { posting = posting; apart = apart })
  pub more : List ℕ
  pub image : new.image ≡ old.image ++ more
  pub pages : length more ≡ pages_apart (record { posting = posting; apart = apart }) * page_size
  pub given :
      blocks_of (nodes_apart (record { posting = posting; apart = apart }))
      ≡ range_with_len (block_count old.image) (pages_apart (record { posting = posting; apart = apart }))
  pub kind : new.kind ≡ old.kind
  pub leaves : new.leaves ≡ old.leaves
  pub entries : new.entries ≡ old.entries

-- one entry more is stored
abbrev pub Stores : EntryStore → EntryStore → Posting → Type 0
Stores old new posting =
    (kind : ColType) (stored : List Stored) → HasStored kind stored old
    → (apart : Option ListTree) × HasStored kind (stored ++ record { posting = posting; apart = apart } ∷ []) new

-- these postings are stored behind the others
abbrev pub StoresAll : EntryStore → EntryStore → List Posting → Type 0
StoresAll old new postings =
    (kind : ColType) (stored : List Stored) → HasStored kind stored old
    → (more : List Stored) × (map (λ each. each.posting) more ≡ postings) × HasStored kind (stored ++ more) new
