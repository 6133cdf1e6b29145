-- The order of keys, and what separates two groups in it.
use Rattle.std.proofs.Common.{◌≡◌, ◌≢◌, ℕ, zero, suc, ◌+◌, Bool, true, false, nat_lt, if◌then◌else◌, Option, Some, None, List, [], ◌∷◌, length, take, drop, refl, sym, ap, subst, ◌∙◌, arith, Ordering, Less, Equal, Greater}
use Rattle.std.specs.Cmp.{IsTotalOrder, Equal-is}
use Rattle.std.specs.Cmp.Lexicographic.{options_total}
use Rattle.std.specs.List.{common_prefix_len}
use Rattle.std.specs.Ordering.{is_eq, ordering_then, ordering_reverse}
use Rattle.std.proofs.lemmas.Bool.Decides.{nat_tests}
use Rattle.std.proofs.lemmas.Cmp.{on_total, then_total, tied_itself}
use Rattle.pg_bytes.specs.declared.row_ptr.RowPtr.{RowPtr}
use Rattle.opclass.specs.declared.spec.SortPart.{SortPart}
use Rattle.opclass.specs.declared.value.KeyVal.{KeyVal}
use Rattle.opclass.specs.Order.{column_cmp, key_cmp, part_at, pointer_cmp, row_cmp, unsaid}
use Rattle.opclass.proofs.KeyOrder.{column_cmp_exact, column_cmp_total, key_cmp_exact, key_cmp_total, row_cmp_total}
use Rattle.btree_item.specs.Pivot.{pivot_cmp}
use Rattle.btree_pack.specs.Ends.{last_of}
use Rattle.btree_pack.specs.Groups.{Row, Group}
use Rattle.btree_pack.specs.KeyBounds.{SeparatorsCompareAsPivots, page_key_cmp, row_key, separator_cmp}
use Rattle.btree_pack.specs.Separators.{Separator, is_same_value, separator}

-- ---- the order of keys is total

pointers_total : IsTotalOrder pointer_cmp
pointers_total = on_total (λ (p : RowPtr). ([], p)) (row_cmp_total [])

separators_total : (parts : List SortPart) → IsTotalOrder (separator_cmp parts)
separators_total parts =
    then_total (on_total (λ (s : Separator). s.keys) (key_cmp_total parts)) (on_total (λ (s : Separator). s.pointer) (options_total pointers_total))

pub page_keys_total : (parts : List SortPart) → IsTotalOrder (page_key_cmp parts)
page_keys_total parts = options_total (separators_total parts)

module _ {K : Type 0} {R : K → K → Ordering} (order : IsTotalOrder R) where
  pub not_below_itself : (x : K) → R x x ≢ Less
  not_below_itself x below = let same : Equal ≡ Less = sym (tied_itself order x) ∙ below in cc

  -- what is above isn't below
  pub not_below : (x y : K) → R x y ≡ Less → R y x ≢ Less
  not_below x y below turned = let same : Less ≡ Greater = sym turned ∙ order.antisymm y x ∙ ap ordering_reverse below in cc

  -- what is below something is below what isn't below that
  pub below_not_below : (x y z : K) → R x y ≡ Less → R z y ≢ Less → R x z ≡ Less
  below_not_below x y z below within = go (R x z) refl
    where
      go : (o : Ordering) → R x z ≡ o → R x z ≡ Less
      go Less is = is
      go Equal is = absurd (within (sym (order.congr x z y is) ∙ below))
      go Greater is = absurd (within (order.trans z x y (order.antisymm z x ∙ ap ordering_reverse is) below))

  -- what isn't below something isn't below what that isn't below
  pub not_below_chain : (x y z : K) → R x y ≢ Less → R y z ≢ Less → R x z ≢ Less
  not_below_chain x y z first second below = first (below_not_below x z y below second)

separator-pivot : (parts : List SortPart) (keys : List KeyVal) (pointer : Option RowPtr) (row : Row)
    → separator_cmp parts (record { keys = keys; pointer = pointer }) (record { keys = row.keys; pointer = Some row.pointer })
    ≡ pivot_cmp parts (keys, pointer) (row.keys, row.pointer)
separator-pivot parts keys None row = refl
separator-pivot parts keys (Some pointer) row = refl

pub separators_compare : SeparatorsCompareAsPivots
separators_compare parts kept row = separator-pivot parts kept.keys kept.pointer row

-- ---- a front of the keys

-- what decides first
then_less : (o p : Ordering) → ordering_then o p ≡ Less → o ≢ Equal → o ≡ Less
then_less Less p e apart = refl
then_less Equal p e apart = absurd (apart refl)
then_less Greater p e apart = cc

-- fewer columns that are alike stand before more, or are all
front-below : (parts : List SortPart) (count : ℕ) (keys : List KeyVal) → ordering_then (key_cmp parts (take count keys) keys) Less ≡ Less
front-below parts zero [] = refl
front-below parts zero (key ∷ keys) = refl
front-below parts (suc count) [] = refl
front-below parts (suc count) (key ∷ keys) =
    ap (λ o. ordering_then (ordering_then o (key_cmp (drop 1 parts) (take count keys) keys)) Less) (tied_itself (column_cmp_total (part_at parts 0)) key)
    ∙ front-below (drop 1 parts) count keys

-- how many columns are alike, by whether the first is
alike-more : (x y : KeyVal) (left right : List KeyVal) → is_same_value x y ≡ true
    → common_prefix_len is_same_value (x ∷ left) (y ∷ right) ≡ suc (common_prefix_len is_same_value left right)
alike-more x y left right is =
    ap (λ b. if b then 1 + common_prefix_len is_same_value left right else 0) is
    ∙ (let e : 1 + common_prefix_len is_same_value left right ≡ suc (common_prefix_len is_same_value left right) = omega arith in e)

alike-none : (x y : KeyVal) (left right : List KeyVal) → is_same_value x y ≡ false
    → common_prefix_len is_same_value (x ∷ left) (y ∷ right) ≡ 0
alike-none x y left right is = ap (λ b. if b then 1 + common_prefix_len is_same_value left right else 0) is

same_value : (x y : KeyVal) → is_same_value x y ≡ true → x ≡ y
same_value x y is = column_cmp_exact unsaid x y ((Equal-is (column_cmp unsaid x y)).0 is)

alike_itself : (x : KeyVal) → is_same_value x x ≡ true
alike_itself x = ap is_eq (tied_itself (column_cmp_total unsaid) x)

-- the keys up to the first column in which they differ are above the lesser ones, and there is such a column
record Parts (parts : List SortPart) (left right : List KeyVal) : Type 0 where
  within : nat_lt (common_prefix_len is_same_value left right) (length right) ≡ true
  above : key_cmp parts (take (common_prefix_len is_same_value left right + 1) right) left ≡ Greater

nat_lt-suc : (m n : ℕ) → nat_lt m n ≡ true → nat_lt (suc m) (suc n) ≡ true
nat_lt-suc m n h = grind (arith, nat_tests)

parts_keys : (parts : List SortPart) (left right : List KeyVal) → key_cmp parts left right ≡ Less → Parts parts left right
parts_keys parts [] [] less = cc
parts_keys parts [] (y ∷ right) less = record { within = grind (arith, nat_tests); above = refl }
parts_keys parts (x ∷ left) [] less = cc
parts_keys parts (x ∷ left) (y ∷ right) less = go (is_same_value x y) refl (parts_keys (drop 1 parts) left right)
  where
    alike : ℕ
    alike = common_prefix_len is_same_value left right

    go : (t : Bool) → is_same_value x y ≡ t
        → (key_cmp (drop 1 parts) left right ≡ Less → Parts (drop 1 parts) left right)
        → Parts parts (x ∷ left) (y ∷ right)
    go true is later =
        let same : x ≡ y = same_value x y is in
        let level : column_cmp (part_at parts 0) x y ≡ Equal = ap (column_cmp (part_at parts 0) x) (sym same) ∙ tied_itself (column_cmp_total (part_at parts 0)) x in
        let level' : column_cmp (part_at parts 0) y x ≡ Equal = ap (column_cmp (part_at parts 0) y) same ∙ tied_itself (column_cmp_total (part_at parts 0)) y in
        let behind = later (sym (ap (λ o. ordering_then o (key_cmp (drop 1 parts) left right)) level) ∙ less) in
        let count = alike-more x y left right is in record {
          within = ap (λ (n : ℕ). nat_lt n (suc (length right))) count ∙ nat_lt-suc alike (length right) behind.within;
          above =
              ap (λ (n : ℕ). key_cmp parts (take n (y ∷ right)) (x ∷ left))
              (let e : common_prefix_len is_same_value (x ∷ left) (y ∷ right) + 1 ≡ suc (alike + 1) = omega arith in e)
              ∙ ap (λ o. ordering_then o (key_cmp (drop 1 parts) (take (alike + 1) right) left)) level'
              ∙ behind.above;
        }
    go false is later =
        let differ : column_cmp (part_at parts 0) x y ≢ Equal = λ e.
        let same = column_cmp_exact (part_at parts 0) x y e in
        let turned : true ≡ false = sym (alike_itself x) ∙ ap (is_same_value x) same ∙ is in cc in
        let below : column_cmp (part_at parts 0) x y ≡ Less = then_less (column_cmp (part_at parts 0) x y) (key_cmp (drop 1 parts) left right) less differ in
        let above : column_cmp (part_at parts 0) y x ≡ Greater = (column_cmp_total (part_at parts 0)).antisymm y x ∙ ap ordering_reverse below in
        let count = alike-none x y left right is in record {
          within = ap (λ (n : ℕ). nat_lt n (suc (length right))) count ∙ grind (arith, nat_tests);
          above =
              ap (λ (n : ℕ). key_cmp parts (take (n + 1) (y ∷ right)) (x ∷ left)) count
              ∙ ap (λ o. ordering_then o (key_cmp (drop 1 parts) [] left)) above;
        }

-- all columns of equal keys are alike
all_alike : (keys : List KeyVal) → common_prefix_len is_same_value keys keys ≡ length keys
all_alike [] = refl
all_alike (key ∷ keys) =
    alike-more key key keys keys (alike_itself key) ∙ ap suc (all_alike keys)

nat_lt-itself : (n : ℕ) → nat_lt n n ≡ false
nat_lt-itself n = grind (arith, nat_tests)

-- ---- what separates two groups

-- what separates a row with the greatest pointer of a left group from the keys of a right one
abbrev between : List KeyVal → RowPtr → List KeyVal → Separator
between left greatest right =
    let alike = common_prefix_len is_same_value left right in
    if nat_lt alike (length right)
    then record { keys = take (alike + 1) right; pointer = None }
    else record { keys = right; pointer = Some greatest }

-- it is below the right row and not below the left one
abbrev Separates : List SortPart → List KeyVal → RowPtr → List KeyVal → RowPtr → Separator → Type 0
Separates parts left greatest right next s =
    (separator_cmp parts s (record { keys = right; pointer = Some next }) ≡ Less)
    × (separator_cmp parts s (record { keys = left; pointer = Some greatest }) ≢ Less)

between-separates : (parts : List SortPart) (left right : List KeyVal) (greatest next : RowPtr)
    → row_cmp parts (left, greatest) (right, next) ≡ Less → Separates parts left greatest right next (between left greatest right)
between-separates parts left right greatest next less = go (key_cmp parts left right) refl
  where
    alike : ℕ
    alike = common_prefix_len is_same_value left right

    chosen : Bool → Separator
    chosen b = if b then record { keys = take (alike + 1) right; pointer = None } else record { keys = right; pointer = Some greatest }

    go : (o : Ordering) → key_cmp parts left right ≡ o → Separates parts left greatest right next (between left greatest right)
    go Less is =
        let apart = parts_keys parts left right is in
        subst (λ b. Separates parts left greatest right next (chosen b)) (sym apart.within) (
          front-below parts (alike + 1) right,
          (λ e. let turned : Greater ≡ Less = sym (ap (λ o. ordering_then o Less) apart.above) ∙ e in cc),
        )
    go Equal is =
        let same : left ≡ right = key_cmp_exact parts left right is in
        let all : nat_lt alike (length right) ≡ false =
        ap (λ keys. nat_lt (common_prefix_len is_same_value keys right) (length right)) same
        ∙ ap (λ (n : ℕ). nat_lt n (length right)) (all_alike right)
        ∙ nat_lt-itself (length right) in
        let level : key_cmp parts right right ≡ Equal = tied_itself (key_cmp_total parts) right in
        let level' : key_cmp parts right left ≡ Equal = ap (key_cmp parts right) same ∙ level in
        subst (λ b. Separates parts left greatest right next (chosen b)) (sym all) (
          ap (λ o. ordering_then o (pointer_cmp greatest next)) level
              ∙ sym (ap (λ o. ordering_then o (pointer_cmp greatest next)) is)
              ∙ less,
          (λ e.
              let itself : pointer_cmp greatest greatest ≡ Less = sym (ap (λ o. ordering_then o (pointer_cmp greatest greatest)) level') ∙ e in
              not_below_itself pointers_total greatest itself),
        )
    go Greater is = let turned : Greater ≡ Less = sym (ap (λ o. ordering_then o (pointer_cmp greatest next)) is) ∙ less in cc

-- the last row of a group
abbrev pub last_row : Group → Row
last_row group = last_of group.first group.others

-- what separates two groups is below the first row of the right one, and not below the last row of the left one
pub separator-separates : (parts : List SortPart) (left right : Group) → (last_row left).keys ≡ left.first.keys
    → row_cmp parts ((last_row left).keys, (last_row left).pointer) (right.first.keys, right.first.pointer) ≡ Less
    → (page_key_cmp parts (Some (separator left right)) (row_key right.first) ≡ Less)
    × (page_key_cmp parts (Some (separator left right)) (row_key (last_row left)) ≢ Less)
unfolding separator
separator-separates parts left right alike less =
    let greatest = (last_row left).pointer in
    let separates = between-separates parts left.first.keys right.first.keys greatest right.first.pointer
    (subst (λ keys. row_cmp parts (keys, greatest) (right.first.keys, right.first.pointer) ≡ Less) alike less) in (
      separates.0,
      subst (λ keys. separator_cmp parts (between left.first.keys greatest right.first.keys) (record { keys = keys; pointer = Some greatest }) ≢ Less) (sym alike) separates.1,
    )
