-- The pages of a level of the entry tree while its tuples are put, from left to right.
use Rattle.std.specs.Prelude.{◌≡◌, ℕ, ◌+◌, ◌≤◌, Some, List, [], ◌∷◌, ◌++◌, length, map}
use Rattle.std.specs.List.{AllByRecursion, AllZip, flat_map}
use Rattle.opclass.specs.declared.types.ColType.{ColType}
use Rattle.gin_entry.specs.declared.entry.Entry.{Entry}
use Rattle.posting_tree.specs.Levels.{fill, greatest, least_fill, no_link}
use Rattle.gin_file.specs.EntryTree.{Item, entry_page, item_kind, page_room}
use Rattle.gin_file.specs.EntryTuple.{IsTuple, inner_tuple}
use Rattle.gin_pack.specs.declared.level.FullPage.{FullPage}
use Rattle.gin_pack.specs.declared.level.Level.{Level}

-- bytes are the tuple by which the level above names an entry, whatever the page to which it leads
pub record NamesEntry (kind : ColType) (entry : Entry) (bytes : List ℕ) : Type 0 where
  pub child : ℕ
  pub are : bytes ≡ inner_tuple kind (record { child = child; key = entry })
  pub tuple_is : IsTuple bytes

-- a page has these tuples, is the rightmost so far, and the level above names it by its greatest entry
pub record HasItems (kind : ColType) (flags : ℕ) (items : List Item) (page : FullPage) : Type 0 where
  pub bytes : page.page ≡ entry_page flags no_link (map (λ item. item.tuple) items)
  pub key : (last : Entry) → greatest (item_kind flags) items ≡ Some last → NamesEntry kind last page.key.items
  pub room : fill (item_kind flags) items ≤ page_room
  pub tuples : AllByRecursion (λ item. IsTuple item.tuple) items

-- a page that is full: it is filled as each page but the rightmost is, and so has two tuples at least
pub record IsFilled (flags : ℕ) (items : List Item) : Type 0 where
  pub filled : least_fill ≤ fill (item_kind flags) items
  pub many : 2 ≤ length items

-- a level has these full pages, and these tuples on the open one
pub record Holds (kind : ColType) (flags : ℕ) (pages : List (List Item)) (last : List Item) (level : Level) : Type 0 where
  pub flags_are : level.flags ≡ flags
  pub full : AllZip (HasItems kind flags) pages level.full.items
  pub filled : AllByRecursion (IsFilled flags) pages
  pub open_has : HasItems kind flags last level.open_page
  pub count : level.count ≡ length last
  pub free : level.free + fill (item_kind flags) last ≡ page_room

-- these tuples were put
pub record HasPut (kind : ColType) (flags : ℕ) (items : List Item) (level : Level) : Type 0 where
  pub pages : List (List Item)
  pub last : List Item
  pub all : flat_map (λ page. page) pages ++ last ≡ items
  pub holds : Holds kind flags pages last level

-- these tuples were put, and the open page has the last of them
pub record IsLevelOf (kind : ColType) (flags : ℕ) (items : List Item) (level : Level) : Type 0 where
  pub put : HasPut kind flags items level
  pub some : 1 ≤ length items → 1 ≤ length put.last

-- some tuples were put
pub record IsFilling (level : Level) : Type 0 where
  pub kind : ColType
  pub flags : ℕ
  pub items : List Item
  pub has : HasPut kind flags items level

-- a level takes a tuple, which bytes name for the level above
pub record Takes (level : Level) (tuple key : List ℕ) : Type 0 where
  pub kind : ColType
  pub flags : ℕ
  pub items : List Item
  pub has : HasPut kind flags items level
  pub entry : Entry
  pub names : NamesEntry kind entry key
  pub tuple_is : IsTuple tuple

-- no tuple that was put is gone from a level
abbrev pub KeepsItems : Level → Level → Type 0
KeepsItems old new =
    (kind : ColType) (flags : ℕ) (items : List Item) → HasPut kind flags items old → HasPut kind flags items new

-- a tuple was put behind the others, which bytes name for the level above
abbrev pub PutsItem : Level → Level → List ℕ → List ℕ → Type 0
PutsItem old new tuple key =
    (kind : ColType) (flags : ℕ) (items : List Item) (entry : Entry) → HasPut kind flags items old → NamesEntry kind entry key
    → IsLevelOf kind flags (items ++ record { entry = entry; tuple = tuple } ∷ []) new
