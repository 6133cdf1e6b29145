-- The pages of a level as they come into a file, and the levels above them.
use Rattle.std.specs.Prelude.{◌≡◌, ◌≢◌, ℕ, suc, ◌+◌, ◌*◌, ◌%◌, ◌≤◌, nat_lt, if◌then◌else◌, Some, List, [], ◌∷◌, ◌++◌, length, map}
use Rattle.std.specs.List.{AllByRecursion, AllZip, flat_map, range_with_len}
use Rattle.pg_bytes.specs.Blocks.{block_at, block_count}
use Rattle.pg_bytes.specs.PageLayout.{page_size}
use Rattle.pg_bytes.specs.ItemPage.{lower_at, space_taken}
use Rattle.opclass.specs.declared.types.ColType.{ColType}
use Rattle.gin_entry.specs.declared.entry.Entry.{Entry}
use Rattle.posting_tree.specs.Levels.{AreAbove, Downlink, Node, Page, greatest, no_link, nodes_of_level, said, to_say, top_of}
use Rattle.posting_tree.specs.Reading.{StandIn}
use Rattle.posting_tree.specs.Special.{special_start}
use Rattle.gin_file.specs.EntryTree.{Item, entry_page, inner_flags, inner_kind, item_kind, link_item}
use Rattle.gin_pack.specs.File.{blocks_of}
use Rattle.gin_pack.specs.Pass.Filling.{HasItems, HasPut, IsFilled, IsLevelOf}
use Rattle.gin_pack.specs.declared.level.FullPage.{FullPage}
use Rattle.gin_pack.specs.declared.level.Level.{Level}

-- ---- a level that is filled

-- pages have these tuples, page by page: each but the last is full, and behind such that one has some too
pub record AreCut (kind : ColType) (flags : ℕ) (full : List (List Item)) (last : List Item) (pages : List FullPage) : Type 0 where
  pub have : AllZip (HasItems kind flags) (full ++ last ∷ []) pages
  pub filled : AllByRecursion (IsFilled flags) full
  pub some : 1 ≤ length full → 1 ≤ length last

-- pages have these tuples in order
pub record ArePagesOf (kind : ColType) (flags : ℕ) (items : List Item) (pages : List FullPage) : Type 0 where
  pub full : List (List Item)
  pub last : List Item
  pub all : flat_map (λ page. page) full ++ last ≡ items
  pub cut : AreCut kind flags full last pages

-- ---- one page

-- the right link of a page at a block, where the level ends before another
abbrev pub link_behind : ℕ → ℕ → ℕ
link_behind block end = if nat_lt (block + 1) end then block + 1 else no_link

-- tuples have room on a page
abbrev pub HaveRoom : List (List ℕ) → Type 0
HaveRoom tuples = lower_at tuples + space_taken tuples ≤ special_start

-- the link that leads from a page to a block below another: the greatest entry there
abbrev pub leads_to : ColType → ℕ → Entry → Item
leads_to kind block entry = link_item kind (record { child = block; key = entry })

-- a page with tuples may come into a file, and the level above takes what leads to it
pub record CanPlace (above : Level) (full : FullPage) : Type 0 where
  pub kind : ColType
  pub flags : ℕ
  pub items : List Item
  pub has : HasItems kind flags items full
  pub entry : Entry
  pub greatest_is : greatest (item_kind flags) items ≡ Some entry
  pub links : List Item
  pub put : HasPut kind inner_flags links above

-- a page with tuples has come behind the blocks of a file, linked to the next of a level that ends before a block
abbrev pub PlacesPage : List ℕ → List ℕ → FullPage → ℕ → Type 0
PlacesPage old new full end =
    (kind : ColType) (flags : ℕ) (items : List Item) → HasItems kind flags items full
    → new ≡ old ++ entry_page flags (link_behind (block_count old) end) (map (λ item. item.tuple) items)

-- and the level above has got what leads to it
abbrev pub LeadsToPage : List ℕ → FullPage → Level → Level → Type 0
LeadsToPage file full old new =
    (kind : ColType) (flags : ℕ) (items : List Item) (entry : Entry) (links : List Item)
    → HasItems kind flags items full → greatest (item_kind flags) items ≡ Some entry → HasPut kind inner_flags links old
    → IsLevelOf kind inner_flags (links ++ leads_to kind (block_count file) entry ∷ []) new

-- ---- a level and those above

-- pages with these tuples on consecutive blocks
abbrev pub numbered : ℕ → List (List Item) → List (Page Item)
numbered block [] = []
numbered block (items ∷ cut) = record { block = block; items = items } ∷ numbered (suc block) cut

-- pages may come into a file, which has its meta page and a place for the root
pub record ArePlaceable (file : List ℕ) (pages : List FullPage) : Type 0 where
  pub kind : ColType
  pub flags : ℕ
  pub full : List (List Item)
  pub last : List Item
  pub cut : AreCut kind flags full last pages
  pub begun : 2 * page_size ≤ length file

-- pages with these tuples have come behind the blocks of a file, and this is the level above
pub record ArePlaced (kind : ColType) (flags : ℕ) (cut : List (List Item)) (old new : List ℕ) (above : Level) : Type 0 where
  pub whole : length old % page_size ≡ 0
  pub links : List (Downlink Entry)
  pub said_are : map said links ≡ map (to_say (item_kind flags)) (numbered (block_count old) cut)
  pub level : IsLevelOf kind inner_flags (map (link_item kind) links) above
  pub bytes : new ≡ old ++ flat_map (λ node. node.bytes) (nodes_of_level (item_kind flags) (numbered (block_count old) cut))

-- a file's blocks but the root's, which is block 1, are as they were
abbrev pub KeepsAllButRoot : List ℕ → List ℕ → Type 0
KeepsAllButRoot old new =
    (block : ℕ) → block ≢ 1 → suc block * page_size ≤ length old → block_at block new ≡ block_at block old

-- how many pages levels have
abbrev pub pages_above : ColType → List (List (Page (Downlink Entry))) → ℕ
pages_above kind above = length (flat_map (nodes_of_level (inner_kind kind)) above)

-- a page of a file behind its meta page
pub record IsBehindMeta (file : List ℕ) (node : Node) : Type 0 where
  pub from : 1 ≤ node.block
  pub below : suc node.block * page_size ≤ length file

-- A level with these pages has come into a file with the levels above it, the root at block 1.
pub record HasRisen (kind : ColType) (flags : ℕ) (cut : List (List Item)) (old new : List ℕ) : Type 0 where
  pub pages : List (Page Item)
  pub cut_is : map (λ page. page.items) pages ≡ cut
  pub above : List (List (Page (Downlink Entry)))
  pub rises : AreAbove (inner_kind kind) (map (to_say (item_kind flags)) pages) above
  pub root : top_of (map (λ page. page.block) pages) above ≡ 1 ∷ []
  pub level_stands : StandIn new (nodes_of_level (item_kind flags) pages)
  pub above_stand : StandIn new (flat_map (nodes_of_level (inner_kind kind)) above)
  pub level_within : AllByRecursion (IsBehindMeta new) (nodes_of_level (item_kind flags) pages)
  pub above_within : AllByRecursion (IsBehindMeta new) (flat_map (nodes_of_level (inner_kind kind)) above)
  pub kept : KeepsAllButRoot old new
  pub grown : length new + page_size ≡ length old + (length pages + pages_above kind above) * page_size
  -- but for the root they have the blocks behind the old ones, each once
  pub behind : ℕ
  pub given :
      blocks_of (nodes_of_level (item_kind flags) pages ++ flat_map (nodes_of_level (inner_kind kind)) above)
      ≡ range_with_len (block_count old) behind ++ 1 ∷ []

abbrev pub Rises : List ℕ → List ℕ → List FullPage → Type 0
Rises old new pages =
    (kind : ColType) (flags : ℕ) (full : List (List Item)) (last : List Item) → AreCut kind flags full last pages
    → HasRisen kind flags (full ++ last ∷ []) old new
