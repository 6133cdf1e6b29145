-- Rows in two parts between which no key goes on: their groups and their leaf items are those of the parts.
use Rattle.std.proofs.Common.{◌≡◌, ℕ, ◌+◌, Bool, true, false, List, [], ◌∷◌, ◌++◌, length, map, refl, sym, ap, ◌∙◌, subst, arith, append-nil}
use Rattle.std.specs.Prelude.{Option, Some, None, if◌then◌else◌}
use Rattle.std.specs.List.{AllByRecursion, flat_map}
use Rattle.std.proofs.lemmas.Grind.{flat_map-append}
use Rattle.opclass.specs.declared.value.KeyVal.{KeyVal}
use Rattle.btree_pack.specs.Break.{Item}
use Rattle.btree_pack.specs.Ends.{last_of}
use Rattle.btree_pack.specs.Groups.{KeysPart, Row, Group, have_same_keys, leaf_groups, most_sharing, pieces, rows_of, runs, with_row}
use Rattle.btree_pack.specs.Leaves.{Content, Images, leaf_items_behind}
use Rattle.btree_pack.specs.Pass.Finish.{last_separator}
use Rattle.btree_pack.specs.Pass.Run.{leaf_of}
use Rattle.btree_pack.proofs.Bringing.{behind_of}
use Rattle.btree_pack.proofs.GroupOrder.{IsAlike, groups-alike, last_row-keys}
use Rattle.btree_pack.proofs.Grouping.{groups_hold_rows}

-- ---- groups

with_row-front : (row : Row) (group : Group) (groups more : List Group) → with_row row ((group ∷ groups) ++ more) ≡ with_row row (group ∷ groups) ++ more
with_row-front row group groups more = go (have_same_keys row group.first) refl
  where
    chosen : Bool → List Group → List Group
    chosen b rest = if b then record { first = row; others = rows_of group } ∷ rest else record { first = row; others = [] } ∷ group ∷ rest

    go : (t : Bool) → have_same_keys row group.first ≡ t → chosen (have_same_keys row group.first) (groups ++ more) ≡ chosen (have_same_keys row group.first) groups ++ more
    go true is = ap (λ b. chosen b (groups ++ more)) is ∙ sym (ap (λ b. chosen b groups ++ more) is)
    go false is = ap (λ b. chosen b (groups ++ more)) is ∙ sym (ap (λ b. chosen b groups ++ more) is)

-- the first group of rows begins with the first row
pub record Begins (row : Row) (groups : List Group) : Type 0 where
  pub group : Group
  pub others : List Group
  pub are : groups ≡ group ∷ others
  pub first : group.first ≡ row

begins : (row : Row) (rows : List Row) (groups : List Group) → flat_map rows_of groups ≡ row ∷ rows → Begins row groups
begins row rows [] are = cc
begins row rows (group ∷ groups) are = record { group = group; others = groups; are = refl; first = cc }

runs-begin : (row : Row) (rows : List Row) → Begins row (runs (row ∷ rows))
runs-begin row rows = go (runs rows)
  where
    go : (groups : List Group) → Begins row (with_row row groups)
    go [] = record { group = record { first = row; others = [] }; others = []; are = refl; first = refl }
    go (group ∷ groups) = at (have_same_keys row group.first) refl
      where
        chosen : Bool → List Group
        chosen b = if b then record { first = row; others = rows_of group } ∷ groups else record { first = row; others = [] } ∷ group ∷ groups

        at : (t : Bool) → have_same_keys row group.first ≡ t → Begins row (chosen (have_same_keys row group.first))
        at true is = record { group = record { first = row; others = rows_of group }; others = groups; are = ap chosen is; first = refl }
        at false is = record { group = record { first = row; others = [] }; others = group ∷ groups; are = ap chosen is; first = refl }

runs-part : (rows more : List Row) → KeysPart rows more → runs (rows ++ more) ≡ runs rows ++ runs more
runs-part [] more part = refl
runs-part (row ∷ []) [] part = refl
runs-part (row ∷ []) (next ∷ more) part =
    let first = runs-begin next more in
    let chosen : Bool → List Group = λ (b : Bool). if b then record { first = row; others = rows_of first.group } ∷ first.others else record { first = row; others = [] } ∷ first.group ∷ first.others in
    let apart : have_same_keys row first.group.first ≡ false = ap (have_same_keys row) first.first ∙ part in
    ap (with_row row) first.are ∙ ap chosen apart ∙ ap (λ l. record { first = row; others = [] } ∷ l) (sym first.are)
runs-part (row ∷ next ∷ rows) more part =
    let first = runs-begin next rows in
    ap (with_row row) (runs-part (next ∷ rows) more (behind more part) ∙ ap (λ l. l ++ runs more) first.are)
    ∙ with_row-front row first.group first.others (runs more)
    ∙ ap (λ l. with_row row l ++ runs more) (sym first.are)
  where
    behind : (more : List Row) → KeysPart (row ∷ next ∷ rows) more → KeysPart (next ∷ rows) more
    behind [] part = tt
    behind (m ∷ more) part = part

pub groups-part : (size_of : Row → ℕ) (shares : Bool) (rows more : List Row) → KeysPart rows more
    → leaf_groups size_of shares (rows ++ more) ≡ leaf_groups size_of shares rows ++ leaf_groups size_of shares more
groups-part size_of shares rows more part =
    let cut : Group → List Group = λ run. pieces (if shares then most_sharing (size_of run.first) else 1) run in
    ap (flat_map cut) (runs-part rows more part) ∙ flat_map-append cut (runs rows) (runs more)

-- ---- the first and the last row

pub groups-begin : (size_of : Row → ℕ) (shares : Bool) (row : Row) (rows : List Row) → Begins row (leaf_groups size_of shares (row ∷ rows))
groups-begin size_of shares row rows =
    begins row rows (leaf_groups size_of shares (row ∷ rows)) (groups_hold_rows size_of shares (row ∷ rows))

-- some rows, whose last has these keys
abbrev pub EndsWithKeys : List KeyVal → List Row → Type 0
EndsWithKeys keys [] = ⊥
EndsWithKeys keys (row ∷ rows) = (last_of row rows).keys ≡ keys

ends-behind : (keys : List KeyVal) (front rows : List Row) → EndsWithKeys keys rows → EndsWithKeys keys (front ++ rows)
ends-behind keys [] rows ends = ends
ends-behind keys (row ∷ []) [] ends = absurd ends
ends-behind keys (row ∷ []) (next ∷ rows) ends = ends
ends-behind keys (row ∷ next ∷ front) rows ends = ends-behind keys (next ∷ front) rows ends

-- the last group has the keys of the last row
pub record Ends (rows : List Row) (last : Option Group) : Type 0 where
  pub group : Group
  pub is : last ≡ Some group
  pub keys : EndsWithKeys group.first.keys rows

ends : (group : Group) (groups : List Group) → AllByRecursion IsAlike (group ∷ groups) → Ends (flat_map rows_of (group ∷ groups)) (behind_of (Some group) groups)
ends group [] alike = record {
  group = group;
  is = refl;
  keys = subst (EndsWithKeys group.first.keys) (sym (append-nil (rows_of group))) (last_row-keys group alike.0);
}
ends group (next ∷ groups) alike =
    let later = ends next groups alike.1 in
    record { group = later.group; is = later.is; keys = ends-behind later.group.first.keys (rows_of group) (flat_map rows_of (next ∷ groups)) later.keys }

pub groups-end : (size_of : Row → ℕ) (shares : Bool) (row : Row) (rows : List Row) → Ends (row ∷ rows) (behind_of None (leaf_groups size_of shares (row ∷ rows)))
groups-end size_of shares row rows =
    let all = leaf_groups size_of shares (row ∷ rows) in
    let first = groups-begin size_of shares row rows in
    subst (λ l. Ends l (behind_of None all)) (groups_hold_rows size_of shares (row ∷ rows))
    (subst (λ (g : List Group). Ends (flat_map rows_of g) (behind_of None g)) (sym first.are)
    (ends first.group first.others (subst (AllByRecursion IsAlike) first.are (groups-alike size_of shares (row ∷ rows)))))

-- ---- leaf items

pub items-part : (images : Images) (moment : ℕ) (left : Option Group) (groups more : List Group) (at : ℕ) → at ≡ moment + length groups
    → leaf_items_behind images moment left (groups ++ more)
    ≡ leaf_items_behind images moment left groups ++ leaf_items_behind images at (behind_of left groups) more
items-part images moment left [] more at same = ap (λ (n : ℕ). leaf_items_behind images n left more) (let e : moment ≡ at = omega arith in e)
items-part images moment left (group ∷ groups) more at same =
    ap (λ l. leaf_items_behind images moment left (group ∷ []) ++ l) (items-part images (moment + 1) (Some group) groups more at (omega arith))

-- when items arrive doesn't tell in what pages want to know of them
pub leaves-any-moment : (images : Images) (a b : ℕ) (left : Option Group) (groups : List Group)
    → map leaf_of (leaf_items_behind images a left groups) ≡ map leaf_of (leaf_items_behind images b left groups)
leaves-any-moment images a b left [] = refl
leaves-any-moment images a b left (group ∷ groups) =
    ap (λ l. map leaf_of (leaf_items_behind images a left (group ∷ [])) ++ l) (leaves-any-moment images (a + 1) (b + 1) (Some group) groups)

pub last_separator-part : (separator : List ℕ) (items more : List (Item Content)) → last_separator separator (items ++ more) ≡ last_separator (last_separator separator items) more
last_separator-part separator [] more = refl
last_separator-part separator (item ∷ items) more = last_separator-part item.content.separator items more
