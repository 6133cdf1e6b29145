-- What holds of the levels over any items, of their block numbers, and of the pass that makes them.
use Rattle.std.specs.Prelude.{◌≡◌, ℕ, suc, ◌+◌, ◌-◌, ◌*◌, ◌≤◌, Bool, List, [], ◌∷◌, ◌++◌, length, map, All}
use Rattle.std.specs.List.{flat_map, range_with_len}
use Rattle.std.specs.List.Sorted.{IsPermutation}
use Rattle.pg_bytes.specs.Blocks.{block_at}
use Rattle.pg_bytes.specs.Numbers.{rounded_up}
use Rattle.pg_bytes.specs.PageLayout.{page_size, header_size, line_pointer_size}
use Rattle.pg_bytes.specs.declared.row_ptr.RowPtr.{RowPtr}
use Rattle.opclass.specs.declared.value.KeyVal.{KeyVal}
use Rattle.btree_pack.specs.Births.{Birth, births_of, block_of}
use Rattle.btree_pack.specs.Break.{Item, minus_infinity_size, taken}
use Rattle.btree_pack.specs.Groups.{Row, rows_of, leaf_groups}
use Rattle.btree_pack.specs.Leaves.{Content, Images, leaf_items, plain_of, tuple_of_group}
use Rattle.btree_pack.specs.Nodes.{file_of, meta_page_of, nodes_of}
use Rattle.btree_page.specs.SpecialSpace.{special_start}
use Rattle.btree_pack.specs.Pages.{Page, items_of}
use Rattle.btree_pack.specs.Separators.{Separator}
use Rattle.btree_pack.specs.Tower.{ArriveInTurn, item_above, levels}
use Rattle.btree_pack.specs.Pass.Open.{close, step, tower}
use Rattle.btree_pack.specs.Pass.History.{births_in, born_by, history}

-- ---- rows and leaf items

-- the groups hold exactly the rows, each once, in order
abbrev pub GroupsHoldTheRows : Type 0
GroupsHoldTheRows =
    (size_of : Row → ℕ) (shares : Bool) (rows : List Row) → flat_map rows_of (leaf_groups size_of shares rows) ≡ rows

-- a leaf item is the tuple of a group, in order
abbrev pub LeafItemsAreTheGroups : Type 0
LeafItemsAreTheGroups =
    (images : Images) (shares : Bool) (rows : List Row)
    → map (λ item. item.content.tuple) (leaf_items images shares rows)
    ≡ map (tuple_of_group images) (leaf_groups (λ row. length (plain_of images row)) shares rows)

abbrev pub LeafItemsArriveInTurn : Type 0
LeafItemsArriveInTurn =
    (images : Images) (shares : Bool) (rows : List Row) → ArriveInTurn (leaf_items images shares rows)

-- ---- levels

-- the first level has exactly these items, in order
abbrev pub BeginsWith : {C : Type 0} → List (Item C) → List (List (Page C)) → Type 0
BeginsWith items [] = items ≡ []
BeginsWith items (leaves ∷ above) = flat_map items_of leaves ≡ items

-- the leaves from left to right hold exactly the items, each once, in order
abbrev pub LeavesHoldTheItems : Type 0
LeavesHoldTheItems = (fillfactor : ℕ) (items : List (Item Content)) → BeginsWith items (levels fillfactor items)

-- each level has an item for each page of the level below, in order
abbrev pub EachNamesTheBelow : {C : Type 0} → List (List (Page C)) → Type 0
EachNamesTheBelow [] = Unit {0}
EachNamesTheBelow (root ∷ []) = Unit {0}
EachNamesTheBelow (below ∷ above ∷ others) =
    (flat_map items_of above ≡ map item_above below) × EachNamesTheBelow (above ∷ others)

abbrev pub EachPageIsNamedOnce : Type 0
EachPageIsNamedOnce = (fillfactor : ℕ) (items : List (Item Content)) → EachNamesTheBelow (levels fillfactor items)

-- a level has another above it exactly where it has several pages
abbrev pub EndsInRoot : {C : Type 0} → List (List (Page C)) → Type 0
EndsInRoot [] = Unit {0}
EndsInRoot (root ∷ []) = length root ≡ 1
EndsInRoot (pages ∷ above ∷ others) = (2 ≤ length pages) × EndsInRoot (above ∷ others)

abbrev pub TheLastLevelIsTheRoot : Type 0
TheLastLevelIsTheRoot = (fillfactor : ℕ) (items : List (Item Content)) → EndsInRoot (levels fillfactor items)

-- ---- room

-- the pages of a level, each with its high key, fit between header and special space
abbrev pub FitOnPages : {C : Type 0} → ℕ → List (Page C) → Type 0
FitOnPages level [] = Unit {0}
FitOnPages level (page ∷ []) = taken level (items_of page) ≤ special_start - header_size
FitOnPages level (page ∷ next ∷ others) =
    (taken level (items_of page) + (next.first.bound + line_pointer_size) ≤ special_start - header_size)
    × FitOnPages level (next ∷ others)

abbrev pub EachLevelFits : {C : Type 0} → ℕ → List (List (Page C)) → Type 0
EachLevelFits level [] = Unit {0}
EachLevelFits level (pages ∷ above) = FitOnPages level pages × EachLevelFits (suc level) above

-- an item of a leaf that is no larger than a third of a page (BTMaxItemSize of nbtree.h), and its separator by no more
-- than a row pointer larger than the item
pub record IsSmall (item : Item Content) : Type 0 where
  pub size : item.size ≤ 2704
  pub bound : item.bound ≤ item.size + 8

-- no page holds more than fits
abbrev pub PagesFit : Type 0
PagesFit =
    (fillfactor : ℕ) (items : List (Item Content)) → All IsSmall items → EachLevelFits 0 (levels fillfactor items)

-- an item as it is written: its tuple and its separator have the sizes that it tells, which are multiples of 8, and the
-- separator has room for a child
pub record IsWritten (item : Item Content) : Type 0 where
  pub tuple : length item.content.tuple ≡ item.size
  pub separator : length item.content.separator ≡ item.bound
  pub whole_tuple : rounded_up 8 item.size ≡ item.size
  pub whole_separator : rounded_up 8 item.bound ≡ item.bound
  pub some : minus_infinity_size ≤ item.bound

-- tuples that are written in multiples of 8 bytes, and separators with room for a child
pub record WritesWhole (images : Images) : Type 0 where
  pub plain :
      (values : List KeyVal) (pointer : RowPtr)
      → rounded_up 8 (length (images.plain values pointer)) ≡ length (images.plain values pointer)
  pub posting :
      (values : List KeyVal) (pointers : List RowPtr)
      → rounded_up 8 (length (images.posting values pointers)) ≡ length (images.posting values pointers)
  pub pivot : (kept : Separator) → rounded_up 8 (length (images.pivot kept)) ≡ length (images.pivot kept)
  pub some : (kept : Separator) → minus_infinity_size ≤ length (images.pivot kept)

-- leaf items tell the sizes of their tuples
abbrev pub LeafItemsAreWritten : Type 0
LeafItemsAreWritten =
    (images : Images) (shares : Bool) (rows : List Row) → WritesWhole images → All IsWritten (leaf_items images shares rows)

-- each node is a page
abbrev pub NodesArePages : Type 0
NodesArePages =
    (fillfactor : ℕ) (items : List (Item Content)) → All IsSmall items → All IsWritten items
    → All (λ node. length node.bytes ≡ page_size) (nodes_of (levels fillfactor items))

-- ---- block numbers

-- no two pages have one block, and the file has just these blocks
abbrev pub BlocksAreExact : Type 0
BlocksAreExact =
    (fillfactor : ℕ) (items : List (Item Content)) → ArriveInTurn items
    → IsPermutation (map (λ node. node.block) (nodes_of (levels fillfactor items)))
    (range_with_len 1 (length (nodes_of (levels fillfactor items))))

-- the file of a tower is its meta page and its nodes, a whole page each, and each node stands at its block
pub record IsFileOf (equal_images : Bool) (tree : List (List (Page Content))) (file : List ℕ) : Type 0 where
  pub blocks : length file ≡ page_size * (1 + length (nodes_of tree))
  pub meta : block_at 0 file ≡ meta_page_of equal_images tree
  pub nodes : All (λ node. block_at node.block file ≡ node.bytes) (nodes_of tree)

abbrev pub FileHasTheNodes : Type 0
FileHasTheNodes =
    (equal_images : Bool) (fillfactor : ℕ) (items : List (Item Content))
    → All IsSmall items → All IsWritten items → ArriveInTurn items
    → IsFileOf equal_images (levels fillfactor items) (file_of equal_images (levels fillfactor items))

-- and no other file is made of them
abbrev pub FileIsDetermined : Type 0
FileIsDetermined =
    (equal_images : Bool) (fillfactor : ℕ) (items : List (Item Content)) (file : List ℕ)
    → All IsSmall items → All IsWritten items → ArriveInTurn items
    → IsFileOf equal_images (levels fillfactor items) file
    → file ≡ file_of equal_images (levels fillfactor items)

-- ---- the pass

-- one item more is one step of the tower
abbrev pub TowerGrowsByAStep : Type 0
TowerGrowsByAStep =
    (fillfactor : ℕ) (items : List (Item Content)) (item : Item Content)
    → tower fillfactor (items ++ item ∷ []) ≡ step fillfactor 0 (tower fillfactor items) item

-- the tower over all items, closed, is the levels over them
abbrev pub ClosedTowerIsTheLevels : Type 0
ClosedTowerIsTheLevels =
    (fillfactor : ℕ) (items : List (Item Content))
    → close (length items) fillfactor 0 (length items + 1) (tower fillfactor items) ≡ levels fillfactor items

-- the pages are numbered 1, 2, 3 and so on, in the order in which the pass makes them
abbrev pub PagesAreNumberedAsBorn : Type 0
PagesAreNumberedAsBorn =
    (fillfactor : ℕ) (items : List (Item Content)) → ArriveInTurn items
    → map (block_of (births_of (levels fillfactor items))) (history fillfactor items)
    ≡ range_with_len 1 (length (history fillfactor items))

-- the order in which the pass makes pages is that of all births
abbrev pub HistoryIsTheBirths : Type 0
HistoryIsTheBirths =
    (fillfactor : ℕ) (items : List (Item Content))
    → IsPermutation (births_of (levels fillfactor items)) (history fillfactor items)

-- the pages that a step makes get the next numbers, from the lowest level up
abbrev pub StepTakesTheNextNumbers : Type 0
StepTakesTheNextNumbers =
    (fillfactor : ℕ) (items : List (Item Content)) (item : Item Content) → ArriveInTurn (items ++ item ∷ [])
    → map (block_of (births_in 0 (tower fillfactor (items ++ item ∷ []))))
    (born_by fillfactor 0 (tower fillfactor items) item)
    ≡ range_with_len (1 + length (births_in 0 (tower fillfactor items)))
    (length (born_by fillfactor 0 (tower fillfactor items) item))

-- a page that was born while the first items came keeps its number, whatever comes behind them
abbrev pub NumbersStay : Type 0
NumbersStay =
    (fillfactor : ℕ) (items behind : List (Item Content)) (birth : Birth) → ArriveInTurn (items ++ behind)
    → birth.moment ≤ length items
    → block_of (births_of (levels fillfactor (items ++ behind))) birth
    ≡ block_of (births_in 0 (tower fillfactor items)) birth
