-- The groups hold exactly the rows, and leaf items are the groups' tuples, a moment each.
use Rattle.std.proofs.Common.{◌≡◌, ℕ, zero, suc, ◌+◌, ◌-◌, Bool, true, false, List, [], ◌∷◌, ◌++◌, length, map, take, drop, refl, sym, ap, ◌∙◌, append-nil}
use Rattle.std.proofs.lemmas.List.{take-append-drop}
use Rattle.std.proofs.lemmas.List.Concat.{flat_map-append}
use Rattle.std.specs.List.{flat_map, range_with_len}
use Rattle.std.specs.Prelude.{Option, Some, None, if◌then◌else◌}
use Rattle.btree_pack.specs.Groups.{Row, Group, rows_of, have_same_keys, with_row, runs, most_sharing, pieces_within, pieces, leaf_groups}
use Rattle.btree_pack.specs.Leaves.{Images, plain_of, tuple_of_group, leaf_items_behind, leaf_items}
use Rattle.btree_pack.specs.Tower.{ArriveInTurn}

with_row-rows : (row : Row) (groups : List Group) → flat_map rows_of (with_row row groups) ≡ row ∷ flat_map rows_of groups
with_row-rows row [] = refl
with_row-rows row (group ∷ groups) = go (have_same_keys row group.first) refl
  where
    go : (t : Bool) → have_same_keys row group.first ≡ t → flat_map rows_of (with_row row (group ∷ groups)) ≡ row ∷ flat_map rows_of (group ∷ groups)
    go true is = rw is refl
    go false is = rw is refl

runs-rows : (rows : List Row) → flat_map rows_of (runs rows) ≡ rows
runs-rows [] = refl
runs-rows (row ∷ rows) = with_row-rows row (runs rows) ∙ ap (λ l. row ∷ l) (runs-rows rows)

pieces_within-rows : (cuts most : ℕ) (group : Group) → flat_map rows_of (pieces_within cuts most group) ≡ rows_of group
pieces_within-rows zero most group = append-nil (rows_of group)
pieces_within-rows (suc cuts) most group =
    go (drop (most - 1) group.others) refl (λ next behind. pieces_within-rows cuts most (record { first = next; others = behind }))
  where
    parted : List Row → List Group
    parted left = elim left as (λ left. List Group) [
      | [] ↦ group ∷ []
      | next ∷ behind ↦
          record { first = group.first; others = take (most - 1) group.others }
          ∷ pieces_within cuts most (record { first = next; others = behind })
    ]

    go : (left : List Row) → drop (most - 1) group.others ≡ left
        → ((next : Row) (behind : List Row) → flat_map rows_of (pieces_within cuts most (record { first = next; others = behind })) ≡ next ∷ behind)
        → flat_map rows_of (pieces_within (suc cuts) most group) ≡ rows_of group
    go [] is later = ap (λ left. flat_map rows_of (parted left)) is ∙ append-nil (rows_of group)
    go (next ∷ behind) is later =
        ap (λ left. flat_map rows_of (parted left)) is
        ∙ ap (λ l. (group.first ∷ take (most - 1) group.others) ++ l) (later next behind ∙ sym is)
        ∙ ap (λ l. group.first ∷ l) (take-append-drop (most - 1) group.others)

pieces-rows : (most : ℕ) (group : Group) → flat_map rows_of (pieces most group) ≡ rows_of group
unfolding pieces
pieces-rows most group = pieces_within-rows (length group.others) most group

cut-rows : (most_of : Group → ℕ) (groups : List Group)
    → flat_map rows_of (flat_map (λ run. pieces (most_of run) run) groups) ≡ flat_map rows_of groups
cut-rows most_of [] = refl
cut-rows most_of (group ∷ groups) =
    flat_map-append rows_of (pieces (most_of group) group) (flat_map (λ run. pieces (most_of run) run) groups)
    ∙ ap (λ l. l ++ flat_map rows_of (flat_map (λ run. pieces (most_of run) run) groups)) (pieces-rows (most_of group) group)
    ∙ ap (λ l. rows_of group ++ l) (cut-rows most_of groups)

pub groups_hold_rows : (size_of : Row → ℕ) (shares : Bool) (rows : List Row) → flat_map rows_of (leaf_groups size_of shares rows) ≡ rows
groups_hold_rows size_of shares rows =
    cut-rows (λ run. if shares then most_sharing (size_of run.first) else 1) (runs rows) ∙ runs-rows rows

-- ---- leaf items

tuples-behind : (images : Images) (moment : ℕ) (left : Option Group) (groups : List Group)
    → map (λ item. item.content.tuple) (leaf_items_behind images moment left groups) ≡ map (tuple_of_group images) groups
tuples-behind images moment left [] = refl
tuples-behind images moment left (group ∷ groups) =
    ap (λ l. tuple_of_group images group ∷ l) (tuples-behind images (moment + 1) (Some group) groups)

turn-behind : (images : Images) (moment : ℕ) (left : Option Group) (groups : List Group)
    → map (λ item. item.arrival) (leaf_items_behind images moment left groups)
    ≡ range_with_len moment (length (leaf_items_behind images moment left groups))
turn-behind images moment left [] = refl
turn-behind images moment left (group ∷ groups) = ap (λ l. moment ∷ l) (turn-behind images (moment + 1) (Some group) groups)

pub leaf_items_are_groups : (images : Images) (shares : Bool) (rows : List Row)
    → map (λ item. item.content.tuple) (leaf_items images shares rows)
    ≡ map (tuple_of_group images) (leaf_groups (λ row. length (plain_of images row)) shares rows)
unfolding leaf_items
leaf_items_are_groups images shares rows =
    tuples-behind images 1 None (leaf_groups (λ row. length (plain_of images row)) shares rows)

pub leaf_items_in_turn : (images : Images) (shares : Bool) (rows : List Row) → ArriveInTurn (leaf_items images shares rows)
unfolding leaf_items
leaf_items_in_turn images shares rows = turn-behind images 1 None (leaf_groups (λ row. length (plain_of images row)) shares rows)
