-- A pivot separates its neighbours.
use Rattle.std.proofs.Common.{◌≡◌, ◌≢◌, ℕ, zero, suc, ◌-◌, ◌<◌, ◌≤◌, nat_le, true, false, if◌then◌else◌, Option, Some, None, List, [], ◌∷◌, length, take, drop, refl, sym, ap, subst, ◌∙◌, inl, inr, arith, Ordering, Less, Equal, Greater}
use Rattle.std.specs.Ordering.{ordering_then, ordering_reverse}
use Rattle.std.proofs.Math.Nat.{eq-or-lt_of_le}
use Rattle.std.proofs.lemmas.Cmp.{tied_itself}
use Rattle.std.proofs.lemmas.List.{take_all}
use Rattle.std.proofs.lemmas.Bool.Decides.{nat_tests}
use Rattle.pg_bytes.specs.declared.row_ptr.RowPtr.{RowPtr}
use Rattle.opclass.specs.declared.spec.SortPart.{SortPart}
use Rattle.opclass.specs.declared.value.KeyVal.{KeyVal}
use Rattle.opclass.specs.Order.{column_cmp, key_cmp, part_at, pointer_cmp, row_cmp}
use Rattle.opclass.proofs.KeyOrder.{column_cmp_exact, column_cmp_total, key_cmp_exact, key_cmp_total, row_cmp_total}
use Rattle.btree_item.specs.Pivot.{kept_of, pivot_cmp}
use Rattle.btree_item.specs.Truncation.{KeepsUpToDifference}

-- what decides first
then_less : (o p : Ordering) → ordering_then o p ≡ Less → o ≢ Equal → o ≡ Less
then_less Less p e apart = refl
then_less Equal p e apart = absurd (apart refl)
then_less Greater p e apart = cc

-- fewer attributes that are alike stand before more, or are all
front-below : (parts : List SortPart) (count : ℕ) (keys : List KeyVal) → ordering_then (key_cmp parts (take count keys) keys) Less ≡ Less
front-below parts zero [] = refl
front-below parts zero (key ∷ keys) = refl
front-below parts (suc count) [] = refl
front-below parts (suc count) (key ∷ keys) =
    ap (λ o. ordering_then (ordering_then o (key_cmp (drop 1 parts) (take count keys) keys)) Less) (tied_itself (column_cmp_total (part_at parts 0)) key)
    ∙ front-below (drop 1 parts) count keys

-- the attributes of the greater list up to the first that differs stand behind the lesser list
front-above : (parts : List SortPart) (count : ℕ) (left right : List KeyVal) → length left ≡ length right → take count left ≡ take count right
    → take (suc count) left ≢ take (suc count) right → key_cmp parts left right ≡ Less → key_cmp parts (take (suc count) right) left ≡ Greater
front-above parts count [] [] same alike apart less = absurd (apart refl)
front-above parts count [] (y ∷ right) same alike apart less = absurd (omega arith)
front-above parts count (x ∷ left) [] same alike apart less = absurd (omega arith)
front-above parts zero (x ∷ left) (y ∷ right) same alike apart less =
    let differ : column_cmp (part_at parts 0) x y ≢ Equal = λ e. apart (ap (λ v. v ∷ []) (column_cmp_exact (part_at parts 0) x y e)) in
    let below : column_cmp (part_at parts 0) x y ≡ Less = then_less (column_cmp (part_at parts 0) x y) (key_cmp (drop 1 parts) left right) less differ in
    let above : column_cmp (part_at parts 0) y x ≡ Greater = (column_cmp_total (part_at parts 0)).antisymm y x ∙ ap ordering_reverse below in
    ap (λ o. ordering_then o (key_cmp (drop 1 parts) [] left)) above
front-above parts (suc count) (x ∷ left) (y ∷ right) same alike apart less =
    let head : x ≡ y = cc in
    let tail : take count left ≡ take count right = cc in
    let level : column_cmp (part_at parts 0) x y ≡ Equal = ap (column_cmp (part_at parts 0) x) (sym head) ∙ tied_itself (column_cmp_total (part_at parts 0)) x in
    let level' : column_cmp (part_at parts 0) y x ≡ Equal = ap (column_cmp (part_at parts 0) y) head ∙ tied_itself (column_cmp_total (part_at parts 0)) y in
    let less' : key_cmp (drop 1 parts) left right ≡ Less = sym (ap (λ o. ordering_then o (key_cmp (drop 1 parts) left right)) level) ∙ less in
    let apart' : take (suc count) left ≢ take (suc count) right = λ e. apart (cc) in
    ap (λ o. ordering_then o (key_cmp (drop 1 parts) (take (suc count) right) left)) level'
    ∙ front-above (drop 1 parts) count left right (omega arith) tail apart' less'

-- a pivot is below no row of the left, and below this row of the right
Separates : List SortPart → List KeyVal → List KeyVal → RowPtr → RowPtr → List KeyVal × Option RowPtr → Type 0
Separates parts left right ptr next pivot = (pivot_cmp parts pivot (left, ptr) ≢ Less) × (pivot_cmp parts pivot (right, next) ≡ Less)

nat_le-true : (m n : ℕ) → m ≤ n → nat_le m n ≡ true
nat_le-true m n h = grind (arith, nat_tests)

nat_le-false : (m n : ℕ) → n < m → nat_le m n ≡ false
nat_le-false m n h = grind (arith, nat_tests)

-- a pivot that keeps some of the attributes
some_kept : (parts : List SortPart) (left right : List KeyVal) (ptr greatest next : RowPtr) (count : ℕ) → length left ≡ length right
    → take count left ≡ take count right → take (suc count) left ≢ take (suc count) right → row_cmp parts (left, greatest) (right, next) ≡ Less
    → Separates parts left right ptr next (take (suc count) right, None)
unfolding Separates
some_kept parts left right ptr greatest next count same alike apart less =
    let differ : key_cmp parts left right ≢ Equal = λ e. apart (ap (take (suc count)) (key_cmp_exact parts left right e)) in
    let below : key_cmp parts left right ≡ Less = then_less (key_cmp parts left right) (pointer_cmp greatest next) less differ in
    let above = front-above parts count left right same alike apart below in (
      (λ e. let turned : Greater ≡ Less = sym (ap (λ o. ordering_then o Less) above) ∙ e in cc),
      front-below parts (suc count) right,
    )

pointers_turned : (p q : RowPtr) → pointer_cmp p q ≡ ordering_reverse (pointer_cmp q p)
pointers_turned p q = (row_cmp_total []).antisymm ([], p) ([], q)

-- a pivot that keeps all attributes, with the greatest row pointer of the left
all_kept : (parts : List SortPart) (left right : List KeyVal) (ptr greatest next : RowPtr) → left ≡ right → pointer_cmp ptr greatest ≢ Greater
    → row_cmp parts (left, greatest) (right, next) ≡ Less → Separates parts left right ptr next (right, Some greatest)
unfolding Separates
all_kept parts left right ptr greatest next same within less =
    let level : key_cmp parts right left ≡ Equal = ap (key_cmp parts right) same ∙ tied_itself (key_cmp_total parts) right in (
      (λ e.
          let below : pointer_cmp greatest ptr ≡ Less = sym (ap (λ o. ordering_then o (pointer_cmp greatest ptr)) level) ∙ e in
          within (pointers_turned ptr greatest ∙ ap ordering_reverse below)),
      sym (ap (λ keys. ordering_then (key_cmp parts keys right) (pointer_cmp greatest next)) same) ∙ less,
    )

pub pivots_separate : (parts : List SortPart) (left right : List KeyVal) (ptr greatest next : RowPtr) (kept : ℕ) → length left ≡ length right
    → KeepsUpToDifference left right kept → pointer_cmp ptr greatest ≢ Greater → row_cmp parts (left, greatest) (right, next) ≡ Less
    → (pivot_cmp parts (kept_of right greatest kept) (left, ptr) ≢ Less) × (pivot_cmp parts (kept_of right greatest kept) (right, next) ≡ Less)
unfolding Separates
pivots_separate parts left right ptr greatest next kept same keeps within less =
    elim (eq-or-lt_of_le keeps.within) [
      | inl all ↦ (
          let whole : take kept right ≡ right = take_all kept right (omega arith) in
          let choice = nat_le-false kept (length right) (omega arith) in
          let equal : left ≡ right =
          sym (take_all (kept - 1) left (omega arith)) ∙ keeps.alike ∙ take_all (kept - 1) right (omega arith) in
          subst (Separates parts left right ptr next)
          (ap (λ keys. (keys, Some greatest)) (sym whole) ∙ ap (λ b. (take kept right, if b then None else Some greatest)) (sym choice))
          (all_kept parts left right ptr greatest next equal within less))
      | inr fewer ↦ (
          let inside : kept ≤ length right = omega arith in
          let choice = nat_le-true kept (length right) inside in
          let some = keeps.some in
          let e : suc (kept - 1) ≡ kept = omega arith in
          let apart : take (suc (kept - 1)) left ≢ take (suc (kept - 1)) right =
          λ alike. keeps.apart inside (subst (λ n. take n left ≡ take n right) e alike) in
          subst (Separates parts left right ptr next)
          (ap (λ n. (take n right, None)) e ∙ ap (λ b. (take kept right, if b then None else Some greatest)) (sym choice))
          (some_kept parts left right ptr greatest next (kept - 1) same keeps.alike apart less))
    ]
