-- Where the keys of a page lie: each is at most the page's high key and above its left neighbour's (the invariant of
-- Lehman and Yao, as nbtree's README has it). Items are told by their groups here, and not by their bytes.
use Rattle.std.specs.Prelude.{◌≡◌, ◌≢◌, ℕ, zero, suc, ◌+◌, Bool, List, [], ◌∷◌, ◌++◌, length, map, All, Option, Some, None}
use Rattle.std.specs.List.{flat_map}
use Rattle.std.specs.List.Sorted.{IsStrictlySortedBy}
use Rattle.std.specs.Option.{option_cmp, option_map}
use Rattle.std.specs.declared.cmp.Ordering.{Ordering}
use Rattle.std.specs.declared.cmp.Ordering.TheVariants.{Less}
use Rattle.opclass.specs.Order.{row_cmp}
use Rattle.opclass.specs.declared.spec.SortPart.{SortPart}
use Rattle.btree_item.specs.Pivot.{minus_infinity, pivot_cmp, pivots_cmp}
use Rattle.btree_pack.specs.Break.{Item}
use Rattle.btree_pack.specs.Groups.{Row, Group, rows_of, leaf_groups}
use Rattle.btree_pack.specs.Leaves.{Content, Images, leaf_item, leaf_items, plain_of, tuple_of_group}
use Rattle.btree_pack.specs.Pages.{Page, items_of}
use Rattle.btree_pack.specs.Separators.{Separator, separator}
use Rattle.btree_pack.specs.Tower.{levels}

-- ---- the order of keys

-- two separators stand to each other as pivots do
abbrev pub separator_cmp : List SortPart → Separator → Separator → Ordering
separator_cmp parts a b = pivots_cmp parts (a.keys, a.pointer) (b.keys, b.pointer)

-- a key of a page: none is minus infinity
abbrev pub PageKey : Type 0
PageKey = Option Separator

-- two keys: minus infinity is below every other
abbrev pub page_key_cmp : List SortPart → PageKey → PageKey → Ordering
page_key_cmp parts = option_cmp (separator_cmp parts)

-- a row's key: the values of its key columns and its row pointer
abbrev pub row_key : Row → PageKey
row_key row = Some (record { keys = row.keys; pointer = Some row.pointer })

-- rows are sorted, and no two are alike
abbrev pub RowsAscend : List SortPart → List Row → Type 0
RowsAscend parts = IsStrictlySortedBy (λ (a b : Row). row_cmp parts (a.keys, a.pointer) (b.keys, b.pointer))

-- a separator stands to a row as its pivot does
abbrev pub SeparatorsCompareAsPivots : Type 0
SeparatorsCompareAsPivots =
    (parts : List SortPart) (kept : Separator) (row : Row)
    → page_key_cmp parts (Some kept) (row_key row)
    ≡ pivot_cmp parts (kept.keys, kept.pointer) (row.keys, row.pointer)

-- ---- items told by their groups

-- what an item has to say: the group of its tuple, or above the leaves the first group below it, and the one before that
pub record Neighbours : Type 0 where
  pub left : Option Group
  pub group : Group

-- the separator from the group before, minus infinity where there is none
abbrev pub separator_of : Neighbours → PageKey
separator_of neighbours = option_map (λ left. separator left neighbours.group) neighbours.left

-- an item that says something else
abbrev pub saying : {C D : Type 0} → D → Item C → Item D
saying content item = record {
  content = content;
  size = item.size;
  extra = item.extra;
  bound = item.bound;
  arrival = item.arrival;
  child = item.child;
}

-- the items of groups that arrive from a moment on behind another, told by the groups
abbrev pub group_items_behind : Images → ℕ → Option Group → List Group → List (Item Neighbours)
group_items_behind images moment left [] = []
group_items_behind images moment left (group ∷ groups) =
    saying (record { left = left; group = group }) (leaf_item images moment left group)
    ∷ group_items_behind images (moment + 1) (Some group) groups

-- the leaf items of sorted rows, told by their groups
unfoldable pub group_items : Images → Bool → List Row → List (Item Neighbours)
group_items images shares rows =
    group_items_behind images 1 None (leaf_groups (λ row. length (plain_of images row)) shares rows)

-- a separator's pivot tuple: that of minus infinity has no keys
abbrev pub pivot_of : Images → PageKey → List ℕ
pivot_of images None = minus_infinity 0
pivot_of images (Some kept) = images.pivot kept

-- what an item has to say, written
abbrev pub written : Images → Neighbours → Content
written images neighbours = record {
  tuple = tuple_of_group images neighbours.group;
  separator = pivot_of images (separator_of neighbours);
}

-- an item and a page, retold
abbrev pub retold : {C D : Type 0} → (C → D) → Item C → Item D
retold tell item = saying (tell item.content) item

abbrev pub retold_page : {C D : Type 0} → (C → D) → Page C → Page D
retold_page tell page = record {
  first = retold tell page.first;
  others = map (retold tell) page.others;
  born = page.born;
  finished = page.finished;
}

-- The levels of an index are those of its items told by their groups, written: the same pages, and each item's tuple and
-- separator are those of the groups.
abbrev pub LevelsAreToldByGroups : Type 0
LevelsAreToldByGroups =
    (images : Images) (shares : Bool) (fillfactor : ℕ) (rows : List Row)
    → levels fillfactor (leaf_items images shares rows)
    ≡ map (map (retold_page (written images))) (levels fillfactor (group_items images shares rows))

-- ---- the keys of a page

-- the keys of an item: on a leaf those of its rows, above the leaves its separator, which is the high key of the page
-- before its child
abbrev pub keys_of : ℕ → Item Neighbours → List PageKey
keys_of zero item = map row_key (rows_of item.content.group)
keys_of (suc level) item = separator_of item.content ∷ []

-- the keys of the first item of a page, which keeps none above the leaves
abbrev pub first_keys : ℕ → Item Neighbours → List PageKey
first_keys zero item = keys_of zero item
first_keys (suc level) item = []

abbrev pub keys_on : ℕ → Page Neighbours → List PageKey
keys_on level page = first_keys level page.first ++ flat_map (keys_of level) page.others

-- the leaves, the first level, from left to right have exactly the keys of the rows, in order
abbrev pub LeavesHaveTheKeysOf : List Row → List (List (Page Neighbours)) → Type 0
LeavesHaveTheKeysOf rows [] = rows ≡ []
LeavesHaveTheKeysOf rows (leaves ∷ above) = flat_map (keys_on 0) leaves ≡ map row_key rows

abbrev pub LeavesHaveTheKeys : Type 0
LeavesHaveTheKeys =
    (images : Images) (shares : Bool) (fillfactor : ℕ) (rows : List Row)
    → LeavesHaveTheKeysOf rows (levels fillfactor (group_items images shares rows))

-- the high key of a page, told by its right neighbour
abbrev pub high_key_before : Page Neighbours → PageKey
high_key_before next = separator_of next.first.content

-- Each key of a page is at most its high key, and each key to the right of the page, so of its right neighbour, is
-- above that.
abbrev pub LieBetweenHighKeys : List SortPart → ℕ → List (Page Neighbours) → Type 0
LieBetweenHighKeys parts level [] = Unit {0}
LieBetweenHighKeys parts level (page ∷ []) = Unit {0}
LieBetweenHighKeys parts level (page ∷ next ∷ others) =
    All (λ key. page_key_cmp parts (high_key_before next) key ≢ Less) (keys_on level page)
    × All (λ key. page_key_cmp parts (high_key_before next) key ≡ Less) (flat_map (keys_on level) (next ∷ others))
    × LieBetweenHighKeys parts level (next ∷ others)

-- the separators of the items of a level ascend
abbrev pub SeparatorsAscend : List SortPart → List (Page Neighbours) → Type 0
SeparatorsAscend parts pages =
    IsStrictlySortedBy (page_key_cmp parts) (map (λ item. separator_of item.content) (flat_map items_of pages))

-- the keys of each level, from one on
abbrev pub EachLevelLiesBetween : List SortPart → ℕ → List (List (Page Neighbours)) → Type 0
EachLevelLiesBetween parts level [] = Unit {0}
EachLevelLiesBetween parts level (pages ∷ above) =
    LieBetweenHighKeys parts level pages × SeparatorsAscend parts pages × EachLevelLiesBetween parts (suc level) above

-- On each level of an index over sorted rows, the keys of each page are at most its high key and above its left
-- neighbour's.
abbrev pub KeysLieBetweenHighKeys : Type 0
KeysLieBetweenHighKeys =
    (parts : List SortPart) (images : Images) (shares : Bool) (fillfactor : ℕ) (rows : List Row) → RowsAscend parts rows
    → EachLevelLiesBetween parts 0 (levels fillfactor (group_items images shares rows))
