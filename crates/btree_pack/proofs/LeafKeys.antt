-- The keys of the leaves are those of the rows.
use Rattle.std.proofs.Common.{◌≡◌, ℕ, ◌+◌, Bool, Option, Some, None, List, [], ◌∷◌, ◌++◌, length, map, refl, sym, ap, ◌∙◌}
use Rattle.std.proofs.lemmas.List.{map-append}
use Rattle.std.proofs.lemmas.List.Concat.{flat_map-append}
use Rattle.std.specs.List.{flat_map}
use Rattle.btree_pack.specs.Break.{Item}
use Rattle.btree_pack.specs.Groups.{Row, Group, rows_of, leaf_groups}
use Rattle.btree_pack.specs.KeyBounds.{LeavesHaveTheKeys, LeavesHaveTheKeysOf, Neighbours, group_items, group_items_behind, keys_of, keys_on, row_key}
use Rattle.btree_pack.specs.Laws.{BeginsWith}
use Rattle.btree_pack.specs.Leaves.{Images, plain_of}
use Rattle.btree_pack.specs.Pages.{Page, items_of}
use Rattle.btree_pack.specs.Tower.{levels}
use Rattle.btree_pack.proofs.Contents.{levels_begin}
use Rattle.btree_pack.proofs.Grouping.{groups_hold_rows}

-- the keys of leaves are those of their items
leaves-keys : (leaves : List (Page Neighbours)) → flat_map (keys_on 0) leaves ≡ flat_map (keys_of 0) (flat_map items_of leaves)
leaves-keys [] = refl
leaves-keys (page ∷ leaves) =
    ap (λ l. keys_on 0 page ++ l) (leaves-keys leaves)
    ∙ sym (flat_map-append (keys_of 0) (items_of page) (flat_map items_of leaves))

items-keys : (images : Images) (moment : ℕ) (left : Option Group) (groups : List Group)
    → flat_map (keys_of 0) (group_items_behind images moment left groups) ≡ map row_key (flat_map rows_of groups)
items-keys images moment left [] = refl
items-keys images moment left (group ∷ groups) =
    ap (λ l. map row_key (rows_of group) ++ l) (items-keys images (moment + 1) (Some group) groups)
    ∙ sym (map-append row_key (rows_of group) (flat_map rows_of groups))

rows-keys : (images : Images) (shares : Bool) (rows : List Row) → flat_map (keys_of 0) (group_items images shares rows) ≡ map row_key rows
unfolding group_items
rows-keys images shares rows =
    let size_of : Row → ℕ = λ row. length (plain_of images row) in
    items-keys images 1 None (leaf_groups size_of shares rows) ∙ ap (map row_key) (groups_hold_rows size_of shares rows)

no_rows : (rows : List Row) → map row_key rows ≡ [] → rows ≡ []
no_rows [] none = refl
no_rows (row ∷ rows) none = cc

have-keys : (rows : List Row) (items : List (Item Neighbours)) (tree : List (List (Page Neighbours))) → flat_map (keys_of 0) items ≡ map row_key rows
    → BeginsWith items tree → LeavesHaveTheKeysOf rows tree
have-keys rows items [] same begins = no_rows rows (sym same ∙ ap (flat_map (keys_of 0)) begins)
have-keys rows items (leaves ∷ above) same begins = leaves-keys leaves ∙ ap (flat_map (keys_of 0)) begins ∙ same

pub leaves_have_the_keys : LeavesHaveTheKeys
leaves_have_the_keys images shares fillfactor rows =
    let items = group_items images shares rows in
    have-keys rows items (levels fillfactor items) (rows-keys images shares rows) (levels_begin fillfactor items)
