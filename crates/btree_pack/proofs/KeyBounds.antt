-- The keys of each level lie between the high keys of its pages.
use Rattle.std.proofs.Common.{◌≡◌, ◌≢◌, ℕ, zero, suc, ◌+◌, Bool, Option, Some, None, List, [], ◌∷◌, ◌++◌, length, map, refl, sym, subst, Ordering, Less}
use Rattle.std.proofs.lemmas.List.Elements.{All-from_recursion}
use Rattle.std.specs.List.{AllByRecursion, flat_map}
use Rattle.std.specs.List.Sorted.{IsStrictlySortedBy}
use Rattle.opclass.specs.Order.{row_cmp}
use Rattle.opclass.specs.declared.spec.SortPart.{SortPart}
use Rattle.btree_pack.specs.Break.{Item}
use Rattle.btree_pack.specs.Ends.{last_of}
use Rattle.btree_pack.specs.Groups.{Row, Group, rows_of, leaf_groups}
use Rattle.btree_pack.specs.KeyBounds.{PageKey, page_key_cmp, row_key, RowsAscend, Neighbours, separator_of, group_items_behind, group_items, keys_of, first_keys, keys_on, high_key_before, LieBetweenHighKeys, EachLevelLiesBetween, KeysLieBetweenHighKeys}
use Rattle.btree_pack.specs.Laws.{BeginsWith, EachNamesTheBelow}
use Rattle.btree_pack.specs.Leaves.{Images, plain_of}
use Rattle.btree_pack.specs.Pages.{Page, items_of}
use Rattle.btree_pack.specs.Separators.{separator}
use Rattle.btree_pack.specs.Tower.{item_above, levels}
use Rattle.btree_pack.proofs.Contents.{levels_begin, levels_name}
use Rattle.btree_pack.proofs.EachAndPairs.{Pairs, each-weaker, each-always, each-both, each-append, each-front, each-back, each-map, each-flat_map, each-swap, pairs-front, pairs-back, pairs-across}
use Rattle.btree_pack.proofs.GroupOrder.{IsAlike, groups-alike, last_row-keys}
use Rattle.btree_pack.proofs.Grouping.{groups_hold_rows}
use Rattle.btree_pack.proofs.Separating.{page_keys_total, not_below_itself, not_below, below_not_below, not_below_chain, last_row, separator-separates}

sorted_from_pairs : {K : Type 0} (c : K → K → Ordering) (ks : List K) → Pairs (λ x y. c x y ≡ Less) ks → IsStrictlySortedBy c ks
unfolding IsStrictlySortedBy
sorted_from_pairs c [] pairs = tt
sorted_from_pairs c (k ∷ ks) pairs = (pairs.0, sorted_from_pairs c ks pairs.1)

pairs_from_sorted : {K : Type 0} (c : K → K → Ordering) (ks : List K) → IsStrictlySortedBy c ks → Pairs (λ x y. c x y ≡ Less) ks
unfolding IsStrictlySortedBy
pairs_from_sorted c [] sorted = tt
pairs_from_sorted c (k ∷ ks) sorted = (sorted.0, pairs_from_sorted c ks sorted.1)

each-last_of : {X : Type 0} (P : X → Type 0) (first : X) (others : List X) → AllByRecursion P (first ∷ others) → P (last_of first others)
each-last_of P first [] each = each.0
each-last_of P first (next ∷ others) each = each-last_of P next others each.1

module _ (parts : List SortPart) where
  -- a row before another
  abbrev Precedes : Row → Row → Type 0
  Precedes a b = row_cmp parts (a.keys, a.pointer) (b.keys, b.pointer) ≡ Less

  abbrev IsAbove : PageKey → Row → Type 0
  IsAbove bound row = page_key_cmp parts bound (row_key row) ≡ Less

  abbrev IsAtMost : PageKey → Row → Type 0
  IsAtMost bound row = page_key_cmp parts bound (row_key row) ≢ Less

  -- ---- an item, and a later one

  -- the rows of an item are above its separator
  abbrev IsAboveSeparator : Item Neighbours → Type 0
  IsAboveSeparator item = AllByRecursion (IsAbove (separator_of item.content)) (rows_of item.content.group)

  -- the rows of an item are at most a later one's separator, and those of the later one are above the item's
  abbrev Parted : Item Neighbours → Item Neighbours → Type 0
  Parted item later =
      AllByRecursion (IsAtMost (separator_of later.content)) (rows_of item.content.group)
      × AllByRecursion (IsAbove (separator_of item.content)) (rows_of later.content.group)

  abbrev AreParted : List (Item Neighbours) → Type 0
  AreParted items = AllByRecursion IsAboveSeparator items × Pairs Parted items

  -- ---- the items of the leaves

  -- no row of ascending rows is above the last one
  last-greatest : (first : Row) (others : List Row) → Pairs Precedes (first ∷ others)
      → AllByRecursion (IsAtMost (row_key (last_of first others))) (first ∷ others)
  last-greatest first [] pairs = (not_below_itself (page_keys_total parts) (row_key first), tt)
  last-greatest first (next ∷ others) pairs = (
    not_below (page_keys_total parts) (row_key first) (row_key (last_of next others)) (each-last_of (Precedes first) next others pairs.0),
    last-greatest next others pairs.1,
  )

  -- the last row of a group precedes the first behind it
  last-precedes : (group : Group) (behind : List Row) (next : Row) → Pairs Precedes (rows_of group ++ next ∷ behind)
      → Precedes (last_row group) next
  last-precedes group behind next pairs =
      (each-last_of (λ row. AllByRecursion (Precedes row) (next ∷ behind)) group.first group.others
      (pairs-across Precedes (rows_of group) (next ∷ behind) pairs)).0

  -- what is above nothing to the right of a group's last row is above no separator there
  at_most : (images : Images) (moment : ℕ) (row : Row) (left : Group) (groups : List Group) → IsAtMost (row_key (last_row left)) row
      → AllByRecursion IsAlike (left ∷ groups) → Pairs Precedes (rows_of left ++ flat_map rows_of groups)
      → AllByRecursion (λ item. IsAtMost (separator_of item.content) row) (group_items_behind images moment (Some left) groups)
  at_most images moment row left [] within alike pairs = tt
  at_most images moment row left (group ∷ groups) within alike pairs =
      let order = page_keys_total parts in
      let behind = pairs-back Precedes (rows_of left) (rows_of group ++ flat_map rows_of groups) pairs in
      let here = last-precedes left (group.others ++ flat_map rows_of groups) group.first pairs in
      let separates = separator-separates parts left group (last_row-keys left alike.0) here in
      let further : Precedes (last_row left) (last_row group) =
      each-last_of (Precedes (last_row left)) group.first group.others
      (each-front (Precedes (last_row left)) (rows_of group) (flat_map rows_of groups)
      (each-last_of (λ row. AllByRecursion (Precedes row) (rows_of group ++ flat_map rows_of groups)) left.first left.others
      (pairs-across Precedes (rows_of left) (rows_of group ++ flat_map rows_of groups) pairs))) in (
        not_below_chain order (Some (separator left group)) (row_key (last_row left)) (row_key row) separates.1 within,
        at_most images (moment + 1) row group groups
            (not_below_chain order (row_key (last_row group)) (row_key (last_row left)) (row_key row)
            (not_below order (row_key (last_row left)) (row_key (last_row group)) further) within)
            alike.1 behind,
      )

  -- the rows before a group that stands behind another
  abbrev rows_before : Option Group → List Row
  rows_before None = []
  rows_before (Some left) = rows_of left

  abbrev AreAlike : Option Group → Type 0
  AreAlike None = Unit {0}
  AreAlike (Some left) = IsAlike left

  -- all rows from a group on are above its separator
  above : (left : Option Group) (group : Group) (behind : List Row) → AreAlike left
      → Pairs Precedes (rows_before left ++ (rows_of group ++ behind))
      → AllByRecursion (IsAbove (separator_of (record { left = left; group = group }))) (rows_of group ++ behind)
  above None group behind alike pairs = each-always (IsAbove None) (λ row. refl) (rows_of group ++ behind)
  above (Some left) group behind alike pairs =
      let here = last-precedes left (group.others ++ behind) group.first pairs in
      let first = (separator-separates parts left group (last_row-keys left alike) here).0 in
      let ascend = pairs-back Precedes (rows_of left) (rows_of group ++ behind) pairs in (
        first,
        each-weaker (Precedes group.first) (IsAbove (Some (separator left group)))
            (λ row precedes. (page_keys_total parts).trans (Some (separator left group)) (row_key group.first) (row_key row) first precedes)
            (group.others ++ behind) ascend.0,
      )

  -- what holds of the rows of groups holds of those of their items
  each-items : (P : Row → Type 0) (images : Images) (moment : ℕ) (left : Option Group) (groups : List Group)
      → AllByRecursion P (flat_map rows_of groups)
      → AllByRecursion (λ item. AllByRecursion P (rows_of item.content.group)) (group_items_behind images moment left groups)
  each-items P images moment left [] each = tt
  each-items P images moment left (group ∷ groups) each = (
    each-front P (rows_of group) (flat_map rows_of groups) each,
    each-items P images (moment + 1) (Some group) groups (each-back P (rows_of group) (flat_map rows_of groups) each),
  )

  items-parted : (images : Images) (moment : ℕ) (left : Option Group) (groups : List Group) → AreAlike left → AllByRecursion IsAlike groups
      → Pairs Precedes (rows_before left ++ flat_map rows_of groups) → AreParted (group_items_behind images moment left groups)
  items-parted images moment left [] alike each pairs = (tt, tt)
  items-parted images moment left (group ∷ groups) alike each pairs =
      let behind = flat_map rows_of groups in
      let items = group_items_behind images (moment + 1) (Some group) groups in
      let bound = separator_of (record { left = left; group = group }) in
      let up = above left group behind alike pairs in
      let ascend = pairs-back Precedes (rows_before left) (rows_of group ++ behind) pairs in
      let later = items-parted images (moment + 1) (Some group) groups each.0 each.1 ascend in
      let low = each-items (IsAbove bound) images (moment + 1) (Some group) groups (each-back (IsAbove bound) (rows_of group) behind up) in
      let within = last-greatest group.first group.others (pairs-front Precedes (rows_of group) behind ascend) in
      let high = each-swap (λ (row : Row) (item : Item Neighbours). IsAtMost (separator_of item.content) row) (rows_of group) items
      (each-weaker (IsAtMost (row_key (last_row group))) (λ row. AllByRecursion (λ item. IsAtMost (separator_of item.content) row) items)
      (λ row w. at_most images (moment + 1) row group groups w each ascend) (rows_of group) within) in (
        (each-front (IsAbove bound) (rows_of group) behind up, later.0),
        (
          each-both (λ item. AllByRecursion (IsAtMost (separator_of item.content)) (rows_of group)) (λ item. AllByRecursion (IsAbove bound) (rows_of item.content.group)) items high low,
          later.1,
        ),
      )

  -- ---- the level above

  -- what holds of what all items say holds of what the items above say
  each-above : (P : Neighbours → Type 0) (pages : List (Page Neighbours)) → AllByRecursion (λ item. P item.content) (flat_map items_of pages)
      → AllByRecursion (λ item. P item.content) (map item_above pages)
  each-above P [] each = tt
  each-above P (page ∷ pages) each = (
    each.0,
    each-above P pages (each-back (λ (item : Item Neighbours). P item.content) page.others (flat_map items_of pages) each.1),
  )

  pairs-above : (pages : List (Page Neighbours)) → Pairs Parted (flat_map items_of pages) → Pairs Parted (map item_above pages)
  pairs-above [] pairs = tt
  pairs-above (page ∷ pages) pairs = (
    each-above
        (λ later. AllByRecursion (IsAtMost (separator_of later)) (rows_of page.first.content.group)
        × AllByRecursion (IsAbove (separator_of page.first.content)) (rows_of later.group))
        pages (each-back (Parted page.first) page.others (flat_map items_of pages) pairs.0),
    pairs-above pages (pairs-back Parted page.others (flat_map items_of pages) pairs.1),
  )

  above-parted : (pages : List (Page Neighbours)) → AreParted (flat_map items_of pages) → AreParted (map item_above pages)
  above-parted pages parted = (
    each-above (λ content. AllByRecursion (IsAbove (separator_of content)) (rows_of content.group)) pages parted.0,
    pairs-above pages parted.1,
  )

  -- ---- the keys of a level

  abbrev KeyIsAbove : PageKey → PageKey → Type 0
  KeyIsAbove bound key = page_key_cmp parts bound key ≡ Less

  abbrev KeyIsAtMost : PageKey → PageKey → Type 0
  KeyIsAtMost bound key = page_key_cmp parts bound key ≢ Less

  -- an item's separator is below a later one's
  separators-ascend : (item later : Item Neighbours) → IsAboveSeparator item → Parted item later
      → KeyIsAbove (separator_of item.content) (separator_of later.content)
  separators-ascend item later up parted =
      below_not_below (page_keys_total parts) (separator_of item.content) (row_key item.content.group.first) (separator_of later.content) up.0 parted.0.0

  keys-at_most : (level : ℕ) (item later : Item Neighbours) → IsAboveSeparator item → Parted item later
      → AllByRecursion (KeyIsAtMost (separator_of later.content)) (keys_of level item)
  keys-at_most zero item later up parted = each-map (KeyIsAtMost (separator_of later.content)) row_key (rows_of item.content.group) parted.0
  keys-at_most (suc level) item later up parted = (
    not_below (page_keys_total parts) (separator_of item.content) (separator_of later.content) (separators-ascend item later up parted),
    tt,
  )

  keys-above : (level : ℕ) (item later : Item Neighbours) → IsAboveSeparator item → Parted item later
      → AllByRecursion (KeyIsAbove (separator_of item.content)) (keys_of level later)
  keys-above zero item later up parted = each-map (KeyIsAbove (separator_of item.content)) row_key (rows_of later.content.group) parted.1
  keys-above (suc level) item later up parted = (separators-ascend item later up parted, tt)

  first-above : (level : ℕ) (item : Item Neighbours) → IsAboveSeparator item → AllByRecursion (KeyIsAbove (separator_of item.content)) (first_keys level item)
  first-above zero item up = each-map (KeyIsAbove (separator_of item.content)) row_key (rows_of item.content.group) up
  first-above (suc level) item up = tt

  -- what holds of the keys of items holds of those of their page
  first-keys : (P : PageKey → Type 0) (level : ℕ) (item : Item Neighbours) → AllByRecursion P (keys_of level item) → AllByRecursion P (first_keys level item)
  first-keys P zero item each = each
  first-keys P (suc level) item each = tt

  page-keys : (P : PageKey → Type 0) (level : ℕ) (page : Page Neighbours)
      → AllByRecursion (λ item. AllByRecursion P (keys_of level item)) (items_of page) → AllByRecursion P (keys_on level page)
  page-keys P level page each =
      each-append P (first_keys level page.first) (flat_map (keys_of level) page.others) (first-keys P level page.first each.0)
      (each-flat_map P (keys_of level) page.others each.1)

  pages-keys : (P : PageKey → Type 0) (level : ℕ) (pages : List (Page Neighbours))
      → AllByRecursion (λ item. AllByRecursion P (keys_of level item)) (flat_map items_of pages) → AllByRecursion P (flat_map (keys_on level) pages)
  pages-keys P level [] each = tt
  pages-keys P level (page ∷ pages) each =
      let Q : Item Neighbours → Type 0 = λ item. AllByRecursion P (keys_of level item) in
      each-append P (keys_on level page) (flat_map (keys_on level) pages)
      (page-keys P level page (each-front Q (items_of page) (flat_map items_of pages) each))
      (pages-keys P level pages (each-back Q (items_of page) (flat_map items_of pages) each))

  between : (level : ℕ) (pages : List (Page Neighbours)) → AreParted (flat_map items_of pages) → LieBetweenHighKeys parts level pages
  between level [] parted = tt
  between level (page ∷ []) parted = tt
  between level (page ∷ next ∷ others) parted =
      let behind = flat_map items_of (next ∷ others) in
      let high = high_key_before next in
      let up = each-back IsAboveSeparator (items_of page) behind parted.0 in
      let apart = pairs-back Parted (items_of page) behind parted.1 in
      let before =
      each-weaker (λ item. IsAboveSeparator item × Parted item next.first) (λ item. AllByRecursion (KeyIsAtMost high) (keys_of level item))
      (λ item both. keys-at_most level item next.first both.0 both.1) (items_of page)
      (each-both IsAboveSeparator (λ item. Parted item next.first) (items_of page) (each-front IsAboveSeparator (items_of page) behind parted.0)
      (each-weaker (λ item. AllByRecursion (Parted item) behind) (λ item. Parted item next.first) (λ item each. each.0) (items_of page)
      (pairs-across Parted (items_of page) behind parted.1))) in
      let Q : Item Neighbours → Type 0 = λ item. AllByRecursion (KeyIsAbove high) (keys_of level item) in
      let after = each-weaker (Parted next.first) Q (λ item apart. keys-above level next.first item up.0 apart) (next.others ++ flat_map items_of others) apart.0 in
      let keys_behind =
      each-append (KeyIsAbove high) (keys_on level next) (flat_map (keys_on level) others)
      (each-append (KeyIsAbove high) (first_keys level next.first) (flat_map (keys_of level) next.others)
      (first-above level next.first up.0)
      (each-flat_map (KeyIsAbove high) (keys_of level) next.others (each-front Q next.others (flat_map items_of others) after)))
      (pages-keys (KeyIsAbove high) level others (each-back Q next.others (flat_map items_of others) after)) in (
        All-from_recursion (KeyIsAtMost high) (keys_on level page) (page-keys (KeyIsAtMost high) level page before),
        All-from_recursion (KeyIsAbove high) (flat_map (keys_on level) (next ∷ others)) keys_behind,
        between level (next ∷ others) (up, apart),
      )

  ascending : (items : List (Item Neighbours)) → AreParted items
      → Pairs (λ a b. page_key_cmp parts a b ≡ Less) (map (λ item. separator_of item.content) items)
  ascending [] parted = tt
  ascending (item ∷ items) parted = (
    each-map (KeyIsAbove (separator_of item.content)) (λ (item : Item Neighbours). separator_of item.content) items
        (each-weaker (Parted item) (λ later. KeyIsAbove (separator_of item.content) (separator_of later.content))
        (λ later apart. separators-ascend item later parted.0.0 apart) items parted.1.0),
    ascending items (parted.0.1, parted.1.1),
  )

  -- ---- all levels

  each-level : (level : ℕ) (tree : List (List (Page Neighbours))) (items : List (Item Neighbours)) → BeginsWith items tree → EachNamesTheBelow tree
      → AreParted items → EachLevelLiesBetween parts level tree
  each-level level [] items begins names parted = tt
  each-level level (pages ∷ []) items begins names parted =
      let here = subst AreParted (sym begins) parted in (
        between level pages here,
        sorted_from_pairs (page_key_cmp parts) (map (λ item. separator_of item.content) (flat_map items_of pages)) (ascending (flat_map items_of pages) here),
        tt,
      )
  each-level level (pages ∷ next ∷ others) items begins names parted =
      let here = subst AreParted (sym begins) parted in (
        between level pages here,
        sorted_from_pairs (page_key_cmp parts) (map (λ item. separator_of item.content) (flat_map items_of pages)) (ascending (flat_map items_of pages) here),
        each-level (suc level) (next ∷ others) (map item_above pages) names.0 names.1 (above-parted pages here),
      )

  parted : (images : Images) (shares : Bool) (rows : List Row) → RowsAscend parts rows → AreParted (group_items images shares rows)
  unfolding group_items
  parted images shares rows ascend =
      let size_of : Row → ℕ = λ row. length (plain_of images row) in
      items-parted images 1 None (leaf_groups size_of shares rows) tt (groups-alike size_of shares rows)
      (subst (Pairs Precedes) (sym (groups_hold_rows size_of shares rows))
      (pairs_from_sorted (λ (a b : Row). row_cmp parts (a.keys, a.pointer) (b.keys, b.pointer)) rows ascend))

pub keys_lie_between : KeysLieBetweenHighKeys
keys_lie_between parts images shares fillfactor rows ascend =
    let items = group_items images shares rows in
    each-level parts 0 (levels fillfactor items) items (levels_begin fillfactor items) (levels_name fillfactor items)
    (parted parts images shares rows ascend)
