-- The distinct elements of an array ascend, and are its elements.
use Rattle.std.proofs.Common.{◌≡◌, ◌⊎◌, List, [], ◌∷◌, arith, refl, sym, ap, subst, ◌∙◌, inl, inr, Ordering, Less, Equal, Greater}
use Rattle.std.specs.Prelude.{All, Contains}
use Rattle.std.specs.BTreeSet.{insert_key}
use Rattle.std.specs.Cmp.{IsTotalOrder}
use Rattle.std.specs.Ordering.{match_ordering, ordering_reverse}
use Rattle.std.specs.List.Sorted.{IsStrictlySortedBy}
use Rattle.std.proofs.lemmas.List.Elements.{All-cons, All-from_recursion, recursion_from_All}
use Rattle.std.proofs.lemmas.Map.Keys.{sorted_head, sorted_tail}
use Rattle.std.proofs.lemmas.Map.Views.{All-insert_key}
use Rattle.opclass.specs.declared.value.Elem.{Elem}
use Rattle.opclass.specs.Order.{elem_cmp}
use Rattle.opclass.proofs.KeyOrder.{elem_cmp_exact, elem_cmp_total}
use Rattle.gin_entry.specs.Entries.{distinct}
use Rattle.gin_entry.proofs.Members.{Contains-head, Contains-behind, Contains-nil, Contains-cases}
use Rattle.gin_entry.proofs.Ascending.{same_list}

module _ {X : Type 0} {R : X → X → Ordering} (order : IsTotalOrder R) (exact : (x y : X) → R x y ≡ Equal → x ≡ y) where
  sorted_cons : (x : X) (xs : List X) → All (λ y. R x y ≡ Less) xs → IsStrictlySortedBy R xs → IsStrictlySortedBy R (x ∷ xs)
  unfolding IsStrictlySortedBy
  sorted_cons x xs below up = (recursion_from_All (λ y. R x y ≡ Less) xs below, up)

  above_head : (x : X) (xs : List X) → IsStrictlySortedBy R (x ∷ xs) → All (λ y. R x y ≡ Less) xs
  above_head x xs up = All-from_recursion (λ y. R x y ≡ Less) xs (sorted_head R x xs up)

  -- a key that is put at its place leaves the list ascending
  sorted_insert : (xs : List X) (k : X) → IsStrictlySortedBy R xs → IsStrictlySortedBy R (insert_key R xs k)
  sorted_insert [] k up = sorted_cons k [] (λ i d inside. absurd (omega arith)) up
  sorted_insert (x ∷ xs) k up = by (R k x) refl (sorted_insert xs k (sorted_tail R x xs up))
    where
      by : (r : Ordering) → R k x ≡ r → IsStrictlySortedBy R (insert_key R xs k) → IsStrictlySortedBy R (match_ordering r (k ∷ x ∷ xs) (x ∷ xs) (x ∷ insert_key R xs k))
      by Less below rest =
          sorted_cons k (x ∷ xs)
          (All-cons (λ y. R k y ≡ Less) x xs below (λ i d inside. order.trans k x _ below (above_head x xs up i d inside)))
          up
      by Equal level rest = up
      by Greater above rest =
          sorted_cons x (insert_key R xs k)
          (All-insert_key R k (λ y. R x y ≡ Less) xs (above_head x xs up) (order.antisymm x k ∙ ap ordering_reverse above))
          rest

  -- the list has the key then, and what it had
  insert_has : (xs : List X) (k : X) → Contains (insert_key R xs k) k
  insert_has [] k = Contains-head k []
  insert_has (x ∷ xs) k = by (R k x) refl (insert_has xs k)
    where
      by : (r : Ordering) → R k x ≡ r → Contains (insert_key R xs k) k → Contains (match_ordering r (k ∷ x ∷ xs) (x ∷ xs) (x ∷ insert_key R xs k)) k
      by Less below rest = Contains-head k (x ∷ xs)
      by Equal level rest = subst (Contains (x ∷ xs)) (sym (exact k x level)) (Contains-head x xs)
      by Greater above rest = Contains-behind x k (insert_key R xs k) rest

  insert_keeps : (xs : List X) (k z : X) → Contains xs z → Contains (insert_key R xs k) z
  insert_keeps [] k z there = absurd (Contains-nil z there)
  insert_keeps (x ∷ xs) k z there = by (R k x) (insert_keeps xs k z)
    where
      by : (r : Ordering) → (Contains xs z → Contains (insert_key R xs k) z) → Contains (match_ordering r (k ∷ x ∷ xs) (x ∷ xs) (x ∷ insert_key R xs k)) z
      by Less rest = Contains-behind k z (x ∷ xs) there
      by Equal rest = there
      by Greater rest = elim (Contains-cases x z xs there) [
        | inl same ↦ subst (Contains (x ∷ insert_key R xs k)) same (Contains-head x (insert_key R xs k))
        | inr behind ↦ Contains-behind x z (insert_key R xs k) (rest behind)
      ]

  insert_adds : (xs : List X) (k z : X) → Contains (insert_key R xs k) z → (k ≡ z) ⊎ Contains xs z
  insert_adds [] k z there = Contains-cases k z [] there
  insert_adds (x ∷ xs) k z there = by (R k x) (insert_adds xs k z) there
    where
      by : (r : Ordering) → (Contains (insert_key R xs k) z → (k ≡ z) ⊎ Contains xs z)
          → Contains (match_ordering r (k ∷ x ∷ xs) (x ∷ xs) (x ∷ insert_key R xs k)) z → (k ≡ z) ⊎ Contains (x ∷ xs) z
      by Less rest there = Contains-cases k z (x ∷ xs) there
      by Equal rest there = inr there
      by Greater rest there = elim (Contains-cases x z (insert_key R xs k) there) [
        | inl same ↦ inr (subst (Contains (x ∷ xs)) same (Contains-head x xs))
        | inr behind ↦ elim (rest behind) [
          | inl same ↦ inl same
          | inr inside ↦ inr (Contains-behind x z xs inside)
        ]
      ]

pub distinct_sorted : (elements : List Elem) → IsStrictlySortedBy elem_cmp (distinct elements)
unfolding IsStrictlySortedBy
distinct_sorted [] = tt
distinct_sorted (element ∷ elements) =
    sorted_insert elem_cmp_total elem_cmp_exact (distinct elements) element (distinct_sorted elements)

pub distinct_has : (elements : List Elem) (z : Elem) → Contains elements z → Contains (distinct elements) z
distinct_has [] z there = there
distinct_has (element ∷ elements) z there =
    elim (Contains-cases element z elements there) [
      | inl same ↦ subst (Contains (distinct (element ∷ elements))) same (insert_has elem_cmp_total elem_cmp_exact (distinct elements) element)
      | inr behind ↦ insert_keeps elem_cmp_total elem_cmp_exact (distinct elements) element z (distinct_has elements z behind)
    ]

pub distinct_only : (elements : List Elem) (z : Elem) → Contains (distinct elements) z → Contains elements z
distinct_only [] z there = there
distinct_only (element ∷ elements) z there =
    elim (insert_adds elem_cmp_total elem_cmp_exact (distinct elements) element z there) [
      | inl same ↦ subst (Contains (element ∷ elements)) same (Contains-head element elements)
      | inr inside ↦ Contains-behind element z elements (distinct_only elements z inside)
    ]

-- a list that ascends and has the elements is that of the distinct ones
pub is_distinct : (elements list : List Elem) → IsStrictlySortedBy elem_cmp list → ((z : Elem) → Contains elements z → Contains list z)
    → ((z : Elem) → Contains list z → Contains elements z) → list ≡ distinct elements
is_distinct elements list up has only =
    same_list elem_cmp_total list (distinct elements) up (distinct_sorted elements)
    (λ z there. distinct_has elements z (only z there)) (λ z there. has z (distinct_only elements z there))
