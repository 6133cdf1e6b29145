-- What std's sort and dedup leave of borrowed elements.
use Rattle.std.proofs.Common.{◌≡◌, ◌+◌, List, [], ◌∷◌, Bool, true, false, cond, length, refl, ap, ◌∙◌, arith, Bor, Ordering}
use Rattle.std.specs.Prelude.{IsSorted}
use Rattle.std.specs.Cmp.{IsStrictWeakOrder, IsTotalOrder}
use Rattle.std.specs.Fn.{Called, ComparesAs}
use Rattle.std.specs.Ordering.{eq_by_cmp, is_lt}
use Rattle.std.specs.List.{dedup, dedup_from}
use Rattle.std.specs.List.Retain.{IsDeduped}
use Rattle.std.specs.List.Sorted.{IsPermutation, IsSortedBy}
use denote.Param.Members.{Mut}
use Rattle.std.proofs.lemmas.Cmp.{eq_by_cmp_equiv, on_total}
use Rattle.std.proofs.lemmas.Fn.{always_returns_same, dedup_same}
use Rattle.std.proofs.lemmas.List.{get_or-map, length-map}
use Rattle.std.proofs.lemmas.List.Kept.{Contains-dedup, Contains-from_dedup, IsStrictlySortedBy-dedup}
use Rattle.std.proofs.lemmas.List.Sorted.{ranks_by, Contains-permutation, IsPermutation-sym}
use Rattle.std.proofs.lemmas.Map.Views.{tells_apart}
use Rattle.opclass.specs.declared.value.Elem.{Elem}
use Rattle.opclass.specs.Order.{elem_cmp}
use Rattle.opclass.proofs.KeyOrder.{elem_cmp_exact, elem_cmp_total}
use Rattle.gin_entry.specs.Entries.{distinct, elements_of}
use Rattle.gin_entry.proofs.Distinct.{is_distinct}

borrowed_cmp : Bor Elem → Bor Elem → Ordering
borrowed_cmp a b = elem_cmp a.now b.now

borrowed_cmp_total : IsTotalOrder borrowed_cmp
unfolding borrowed_cmp
borrowed_cmp_total = on_total (λ (element : Bor Elem). element.now) elem_cmp_total

-- elements ascend as the borrows of them do
ascends : (list : List (Bor Elem)) → IsSorted borrowed_cmp list → IsSorted elem_cmp (elements_of list)
unfolding borrowed_cmp
ascends [] up k d low inside = absurd (omega arith)
ascends (first ∷ list) up k d low inside =
    let all = first ∷ list in
    let size : length (elements_of all) ≡ length all = length-map all (λ (element : Bor Elem). element.now) in
    (λ i. is_lt (elem_cmp
    (get_or-map (λ (element : Bor Elem). element.now) all (k + 1) first d (omega arith) i)
    (get_or-map (λ (element : Bor Elem). element.now) all k first d (omega arith) i)))
    ∙ up k first low (omega arith)

-- what std's sort leaves where each call of the closure compares two elements
pub elements_sorted : {F : Type 0} {g : Mut F (Bor (Bor Elem) × (Bor (Bor Elem) × Unit {0})) Ordering} {f : F} (list : List (Bor Elem))
    → ((lt : Bor Elem → Bor Elem → Bool) → IsStrictWeakOrder lt → ComparesAs g lt f → IsSortedBy lt list)
    → ((a : Bor (Bor Elem) × (Bor (Bor Elem) × Unit {0})) (r : Ordering) (f' : F) → Called g f a r f' → (r ≡ elem_cmp a.0.now.now a.1.0.now.now) × (f' ≡ f))
    → IsSorted elem_cmp (elements_of list)
unfolding borrowed_cmp
elements_sorted {g = g} {f = f} list up h =
    ascends list
    (up (λ a b. is_lt (borrowed_cmp a b)) (ranks_by borrowed_cmp_total (λ (element : Bor Elem). element))
    (always_returns_same g (λ a r. is_lt r ≡ is_lt (borrowed_cmp a.0.now a.1.0.now)) f (λ a r f' k. (ap is_lt (h a r f' k).0, (h a r f' k).1))))

-- elements without repeats are those of their borrows without repeats
without_from : (k : Bor Elem) (list : List (Bor Elem))
    → elements_of (dedup_from (λ a b. eq_by_cmp elem_cmp a.now b.now) k list) ≡ dedup_from (eq_by_cmp elem_cmp) k.now (elements_of list)
without_from k [] = refl
without_from k (x ∷ list) = by (eq_by_cmp elem_cmp x.now k.now) (without_from k list) (without_from x list)
  where
    by : (same : Bool) → elements_of (dedup_from (λ a b. eq_by_cmp elem_cmp a.now b.now) k list) ≡ dedup_from (eq_by_cmp elem_cmp) k.now (elements_of list)
        → elements_of (dedup_from (λ a b. eq_by_cmp elem_cmp a.now b.now) x list) ≡ dedup_from (eq_by_cmp elem_cmp) x.now (elements_of list)
        → elements_of (cond same (dedup_from (λ a b. eq_by_cmp elem_cmp a.now b.now) k list) (k ∷ dedup_from (λ a b. eq_by_cmp elem_cmp a.now b.now) x list))
        ≡ cond same (dedup_from (eq_by_cmp elem_cmp) k.now (elements_of list)) (k.now ∷ dedup_from (eq_by_cmp elem_cmp) x.now (elements_of list))
    by true kept new = kept
    by false kept new = ap (λ others. k.now ∷ others) new

without_repeats : (list : List (Bor Elem))
    → elements_of (dedup (λ a b. eq_by_cmp elem_cmp a.now b.now) list) ≡ dedup (eq_by_cmp elem_cmp) (elements_of list)
without_repeats [] = refl
without_repeats (x ∷ list) = without_from x list

-- what std's `dedup_by` leaves where each call of the closure tells whether two elements are equal
pub repeats_dropped : {F : Type 0} {R : F → Bor Elem → Bor Elem → Bool → F → Bor Elem → Bor Elem → Type 0} {f : F} (old new : List (Bor Elem))
    → IsDeduped R f old new
    → ((x y : Bor Elem) (b : Bool) (f' : F) (x' y' : Bor Elem) → R f x y b f' x' y'
    → (b ≡ eq_by_cmp elem_cmp x.now y.now) × (f' ≡ f) × (x' ≡ x) × (y' ≡ y))
    → elements_of new ≡ dedup (eq_by_cmp elem_cmp) (elements_of old)
repeats_dropped {R = R} {f = f} old new deduped h =
    ap elements_of (dedup_same R (λ a b. eq_by_cmp elem_cmp a.now b.now) f h old new deduped) ∙ without_repeats old

-- sorted and without repeats, they are the distinct elements
pub sorted_distinct : (elements sorted list : List Elem) → IsPermutation elements sorted → IsSorted elem_cmp sorted → list ≡ dedup (eq_by_cmp elem_cmp) sorted
    → list ≡ distinct elements
sorted_distinct elements sorted list moved up left =
    let same = tells_apart elem_cmp_exact in
    left
    ∙ is_distinct elements (dedup (eq_by_cmp elem_cmp) sorted) (IsStrictlySortedBy-dedup elem_cmp_total (λ x y. refl) sorted up)
    (λ z there. Contains-dedup (eq_by_cmp_equiv elem_cmp_total) same sorted z (Contains-permutation elements sorted z moved there))
    (λ z there. Contains-permutation sorted elements z (IsPermutation-sym elements sorted moved) (Contains-from_dedup (eq_by_cmp elem_cmp) sorted z there))
