-- The rows of a group have equal keys.
use Rattle.std.proofs.Common.{◌≡◌, ℕ, zero, suc, ◌-◌, Bool, true, false, List, [], ◌∷◌, ◌++◌, length, take, drop, refl, sym, subst}
use Rattle.std.proofs.lemmas.List.{take-append-drop}
use Rattle.std.specs.Cmp.{Equal-is}
use Rattle.std.specs.List.{AllByRecursion}
use Rattle.std.specs.Prelude.{if◌then◌else◌}
use Rattle.opclass.specs.declared.value.KeyVal.{KeyVal}
use Rattle.opclass.specs.Order.{key_cmp}
use Rattle.opclass.proofs.KeyOrder.{key_cmp_exact}
use Rattle.btree_pack.specs.Ends.{last_of}
use Rattle.btree_pack.specs.Groups.{Row, Group, rows_of, have_same_keys, with_row, runs, most_sharing, pieces_within, pieces, leaf_groups}
use Rattle.btree_pack.proofs.EachAndPairs.{each-back, each-flat_map, each-front, each-weaker}
use Rattle.btree_pack.proofs.Separating.{last_row}

-- rows with these keys
abbrev HaveKeys : List KeyVal → List Row → Type 0
HaveKeys keys = AllByRecursion (λ row. row.keys ≡ keys)

abbrev pub IsAlike : Group → Type 0
IsAlike group = HaveKeys group.first.keys group.others

with_row-alike : (row : Row) (groups : List Group) → AllByRecursion IsAlike groups → AllByRecursion IsAlike (with_row row groups)
with_row-alike row [] alike = (tt, tt)
with_row-alike row (group ∷ groups) alike = go (have_same_keys row group.first) refl
  where
    chosen : Bool → List Group
    chosen b = if b then record { first = row; others = rows_of group } ∷ groups else record { first = row; others = [] } ∷ group ∷ groups

    go : (t : Bool) → have_same_keys row group.first ≡ t → AllByRecursion IsAlike (with_row row (group ∷ groups))
    go true is =
        let same : row.keys ≡ group.first.keys = key_cmp_exact [] row.keys group.first.keys ((Equal-is (key_cmp [] row.keys group.first.keys)).0 is) in
        subst (λ b. AllByRecursion IsAlike (chosen b)) (sym is) (
          (sym same, subst (λ keys. HaveKeys keys group.others) (sym same) alike.0),
          alike.1,
        )
    go false is = subst (λ b. AllByRecursion IsAlike (chosen b)) (sym is) (tt, alike)

runs-alike : (rows : List Row) → AllByRecursion IsAlike (runs rows)
runs-alike [] = tt
runs-alike (row ∷ rows) = with_row-alike row (runs rows) (runs-alike rows)

pieces_within-alike : (cuts most : ℕ) (group : Group) → IsAlike group → AllByRecursion IsAlike (pieces_within cuts most group)
pieces_within-alike zero most group alike = (alike, tt)
pieces_within-alike (suc cuts) most group alike =
    go (drop (most - 1) group.others) refl (λ next behind. pieces_within-alike cuts most (record { first = next; others = behind }))
  where
    parted : List Row → List Group
    parted left = elim left as (λ left. List Group) [
      | [] ↦ group ∷ []
      | next ∷ behind ↦
          record { first = group.first; others = take (most - 1) group.others }
          ∷ pieces_within cuts most (record { first = next; others = behind })
    ]

    whole : HaveKeys group.first.keys (take (most - 1) group.others ++ drop (most - 1) group.others)
    whole = subst (HaveKeys group.first.keys) (sym (take-append-drop (most - 1) group.others)) alike

    go : (left : List Row) → drop (most - 1) group.others ≡ left
        → ((next : Row) (behind : List Row) → HaveKeys next.keys behind
        → AllByRecursion IsAlike (pieces_within cuts most (record { first = next; others = behind })))
        → AllByRecursion IsAlike (pieces_within (suc cuts) most group)
    go [] is later = subst (λ left. AllByRecursion IsAlike (parted left)) (sym is) (alike, tt)
    go (next ∷ behind) is later =
        let front = each-front (λ (row : Row). row.keys ≡ group.first.keys) (take (most - 1) group.others) (drop (most - 1) group.others) whole in
        let back = subst (HaveKeys group.first.keys) is
        (each-back (λ (row : Row). row.keys ≡ group.first.keys) (take (most - 1) group.others) (drop (most - 1) group.others) whole) in
        subst (λ left. AllByRecursion IsAlike (parted left)) (sym is)
        (front, later next behind (subst (λ keys. HaveKeys keys behind) (sym back.0) back.1))

pieces-alike : (most : ℕ) (group : Group) → IsAlike group → AllByRecursion IsAlike (pieces most group)
unfolding pieces
pieces-alike most group alike = pieces_within-alike (length group.others) most group alike

pub groups-alike : (size_of : Row → ℕ) (shares : Bool) (rows : List Row) → AllByRecursion IsAlike (leaf_groups size_of shares rows)
groups-alike size_of shares rows =
    let most_of : Group → ℕ = λ run. if shares then most_sharing (size_of run.first) else 1 in
    each-flat_map IsAlike (λ run. pieces (most_of run) run) (runs rows)
    (each-weaker IsAlike (λ run. AllByRecursion IsAlike (pieces (most_of run) run)) (λ run alike. pieces-alike (most_of run) run alike) (runs rows) (runs-alike rows))

last_of-keys : (keys : List KeyVal) (first : Row) (others : List Row) → first.keys ≡ keys → HaveKeys keys others → (last_of first others).keys ≡ keys
last_of-keys keys first [] here alike = here
last_of-keys keys first (next ∷ others) here alike = last_of-keys keys next others alike.0 alike.1

pub last_row-keys : (group : Group) → IsAlike group → (last_row group).keys ≡ group.first.keys
last_row-keys group alike = last_of-keys group.first.keys group.first group.others refl alike
