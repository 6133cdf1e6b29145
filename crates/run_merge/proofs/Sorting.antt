-- Records in their order: when there is only one list of them.
use Rattle.std.proofs.Common.{◌≡◌, ◌≢◌, zero, suc, true≢false, List, [], ◌∷◌, refl, sym, ap, subst, ◌∙◌, arith, slice_index_or, All, ◌⊎◌, inl, inr, Ordering, Less, Equal, Greater, IsTrue}
use Rattle.std.specs.Prelude.{Contains, AllPairs}
use Rattle.std.specs.Ordering.{is_lt, ordering_reverse}
use Rattle.std.specs.List.Sorted.{IsPermutation}
use Rattle.std.proofs.lemmas.Cmp.{tied_itself}
use Rattle.std.proofs.lemmas.List.Elements.{All-head, All-tail, All-cons, All-contains, All-contains_itself}
use Rattle.std.proofs.lemmas.List.Sorted.{IsPermutation-refl, IsPermutation-trans, IsPermutation-sym, IsPermutation-cons, IsPermutation-append_left, IsPermutation-append_comm, All-permutation}
use Rattle.opclass.specs.declared.spec.SortPart.{SortPart}
use Rattle.opclass.proofs.KeyOrder.{row_cmp_exact}
use Rattle.shared_tape.specs.declared.stored.Record.{Record}
use Rattle.shared_tape.specs.Stored.{record_cmp}
use Rattle.shared_tape.specs.Runs.{IsAscending}
use Rattle.run_merge.specs.Sorted.{row_of, AreApart, AscendStrictly, IsSortedRecords}
use Rattle.run_merge.specs.Merging.{Merging, IsNotBelow, GivesAll}
use Rattle.shared_tape.proofs.OrderBytes.{record_cmp_total}
use Rattle.run_merge.proofs.Moves.{moves}
use Rattle.run_merge.proofs.Firsts.{record_weak}
use Rattle.run_merge.proofs.Ascending.{sorted-head, sorted-tail, sorted-cons, sorted-nil}

-- ---- pairs of a list

module _ {X : Type 0} (R : X → X → Type 0) where
  -- each item and each behind it
  abbrev pub Pairs : List X → Type 0
  Pairs [] = Unit {0}
  Pairs (x ∷ xs) = All (R x) xs × Pairs xs

  pub Pairs-from : (xs : List X) → AllPairs R xs → Pairs xs
  Pairs-from [] h = tt
  Pairs-from (x ∷ xs) h = (
    λ k d l. h 0 (suc k) d (omega arith) (omega arith),
    Pairs-from xs
        (λ i j d p q. h (suc i) (suc j) d (omega arith) (omega arith)),
  )

  pub Pairs-to : (xs : List X) → Pairs xs → AllPairs R xs
  Pairs-to [] h i j d p q = absurd (omega arith)
  Pairs-to (x ∷ xs) h zero zero d p q = absurd (omega arith)
  Pairs-to (x ∷ xs) h zero (suc j) d p q = h.0 j d (omega arith)
  Pairs-to (x ∷ xs) h (suc i) zero d p q = absurd (omega arith)
  Pairs-to (x ∷ xs) h (suc i) (suc j) d p q = Pairs-to xs h.1 i j d (omega arith) (omega arith)

  module _ (back : (x y : X) → R x y → R y x) where
    abbrev Kept : List X → List X → Type 0
    Kept xs ys = (Pairs xs → Pairs ys) × IsPermutation xs ys

    keep : (x : X) (xs ys : List X) → Kept xs ys → Kept (x ∷ xs) (x ∷ ys)
    keep x xs ys k = (λ h. (All-permutation (R x) xs ys k.1 h.0, k.0 h.1), IsPermutation-cons x xs ys k.1)

    turn : (x y : X) (xs : List X) → Kept (x ∷ y ∷ xs) (y ∷ x ∷ xs)
    turn x y xs = (
      λ h. (All-cons (R y) x xs (back x y (All-head (R x) y xs h.0)) h.1.0, (All-tail (R x) y xs h.0, h.1.1)),
      IsPermutation-append_left xs (x ∷ y ∷ []) (y ∷ x ∷ []) (IsPermutation-append_comm (x ∷ []) (y ∷ [])),
    )

    -- in whatever order the items stand, where the order of two doesn't matter
    pub Pairs-moved : (xs ys : List X) → IsPermutation xs ys → Pairs xs → Pairs ys
    Pairs-moved xs ys p =
        (moves Kept (λ a. (λ h. h, IsPermutation-refl a)) (λ a b c f g.
        (λ h. g.0 (f.0 h), IsPermutation-trans a b c f.1 g.1)) keep turn xs ys p).0

-- ---- strictly ascending records

-- of two records that differ, one that isn't above is below
below_or_not : (order : List SortPart) (a b : Record) → row_of a ≢ row_of b → IsNotBelow order b a
    → record_cmp order a b ≡ Less
below_or_not order a b apart not_below = by_cases (record_cmp order a b) refl
  where
    turned : (o : Ordering) → o ≡ Greater → ordering_reverse o ≡ Less
    turned o e = ap ordering_reverse e

    by_cases : (o : Ordering) → record_cmp order a b ≡ o → record_cmp order a b ≡ Less
    by_cases Less e = e
    by_cases Equal e = absurd (apart (row_cmp_exact order (row_of a) (row_of b) e))
    by_cases Greater e =
        absurd (true≢false (sym (ap is_lt ((record_cmp_total order).antisymm b a ∙ turned (record_cmp order a b) e))
        ∙ not_below))

strict : (order : List SortPart) (rows : List Record) → Pairs (λ a b. row_of a ≢ row_of b) rows → IsAscending order rows
    → Pairs (λ a b. record_cmp order a b ≡ Less) rows
strict order [] apart up = tt
strict order (row ∷ rows) apart up =
    let lt = λ (a b : Record). is_lt (record_cmp order a b) in
    let not_below = sorted-head lt (record_weak order) row rows up in (
      λ k d h. below_or_not order row (slice_index_or rows k d) (apart.0 k d h) (not_below k d h),
      strict order rows apart.1 (sorted-tail lt (record_weak order) row rows up),
    )

pub strict_pairs : (order : List SortPart) (records sorted : List Record) → AreApart records
    → IsSortedRecords order records sorted
    → Pairs (λ a b. record_cmp order a b ≡ Less) sorted
strict_pairs order records sorted apart is =
    strict order sorted
    (Pairs-moved (λ a b. row_of a ≢ row_of b) (λ a b n e. n (sym e)) records sorted is.same
    (Pairs-from (λ a b. row_of a ≢ row_of b) records apart))
    is.ascending

pub sorted_strictly : (order : List SortPart) (records sorted : List Record) → AreApart records
    → IsSortedRecords order records sorted → AscendStrictly order sorted
sorted_strictly order records sorted apart is =
    Pairs-to (λ a b. record_cmp order a b ≡ Less) sorted (strict_pairs order records sorted apart is)

-- ---- only one list

never_less : (order : List SortPart) (a : Record) → record_cmp order a a ≡ Less → ⊥
never_less order a e = let level = tied_itself (record_cmp_total order) a in cc

not_both_less : (order : List SortPart) (a b : Record) → record_cmp order a b ≡ Less → record_cmp order b a ≡ Less → ⊥
not_both_less order a b e f = never_less order a ((record_cmp_total order).trans a b a e f)

-- an item of a list that isn't the first stands behind it
behind_first : {X : Type 0} (x z : X) (xs : List X) → Contains (x ∷ xs) z → (x ≡ z → ⊥) → Contains xs z
behind_first x z xs (zero, l, e) n = absurd (n e)
behind_first x z xs (suc k, l, e) n = (k, omega arith, e)

-- where an item of a list stands
first_or_behind : {X : Type 0} (x z : X) (xs : List X) → Contains (x ∷ xs) z → (x ≡ z) ⊎ Contains xs z
first_or_behind x z xs (zero, l, e) = inl e
first_or_behind x z xs (suc k, l, e) = inr (k, omega arith, e)

-- what stands in the second list besides its first stands behind it
rest_within : (order : List SortPart) (x y : Record) (a b : List Record) → x ≡ y
    → All (λ z. record_cmp order x z ≡ Less) a
    → All (Contains (y ∷ b)) (x ∷ a) → All (Contains b) a
rest_within order x y a b same above within k d h =
    let z = slice_index_or a k d in
    behind_first y z b (All-tail (Contains (y ∷ b)) x a within k d h)
    (λ e. never_less order x (subst (λ w. record_cmp order x w ≡ Less) (sym (same ∙ e)) (above k d h)))

same_first : (order : List SortPart) (x y : Record) (a b : List Record) → All (λ z. record_cmp order x z ≡ Less) a
    → All (λ z. record_cmp order y z ≡ Less) b
    → Contains (y ∷ b) x → Contains (x ∷ a) y → x ≡ y
same_first order x y a b above_x above_y in_b in_a =
    elim (first_or_behind y x b in_b) [
      | inl e ↦ sym e
      | inr behind_y ↦ elim (first_or_behind x y a in_a) [
        | inl e ↦ e
        | inr behind_x ↦ absurd (not_both_less order x y (All-contains (λ z. record_cmp order x z ≡ Less) a y above_x
            behind_x)
            (All-contains (λ z. record_cmp order y z ≡ Less) b x above_y behind_y))
      ]
    ]

one_list : (order : List SortPart) (a b : List Record) → Pairs (λ x y. record_cmp order x y ≡ Less) a
    → Pairs (λ x y. record_cmp order x y ≡ Less) b
    → All (Contains b) a → All (Contains a) b → a ≡ b
one_list order [] [] p q f g = refl
one_list order [] (y ∷ b) p q f g = absurd (omega (arith, (All-head (Contains []) y b g).1))
one_list order (x ∷ a) [] p q f g = absurd (omega (arith, (All-head (Contains []) x a f).1))
one_list order (x ∷ a) (y ∷ b) p q f g =
    let same = same_first order x y a b p.0 q.0 (All-head (Contains (y ∷ b)) x a f)
    (All-head (Contains (x ∷ a)) y b g) in
    let rest = one_list order a b p.1 q.1 (rest_within order x y a b same p.0 f)
    (rest_within order y x b a (sym same) q.0 g) in
    λ i. same i ∷ rest i

pub sorted_one : (order : List SortPart) (records a b : List Record) → AreApart records
    → IsSortedRecords order records a → IsSortedRecords order records b → a ≡ b
sorted_one order records a b apart p q =
    let from = IsPermutation-trans a records b (IsPermutation-sym records a p.same) q.same in
    one_list order a b (strict_pairs order records a apart p) (strict_pairs order records b apart q)
    (All-permutation (Contains b) b a (IsPermutation-sym a b from) (All-contains_itself b))
    (All-permutation (Contains a) a b from (All-contains_itself a))

-- ---- what a merge gives

pub given_sorted : (merge : Merging) (rows : List Record) → GivesAll merge rows
    → IsSortedRecords merge.order merge.left rows
given_sorted merge [] none = record {
  same = subst (λ l. IsPermutation l []) (sym none) (IsPermutation-refl []);
  ascending = sorted-nil (λ a b. is_lt (record_cmp merge.order a b)) (record_weak merge.order);
}
given_sorted merge (row ∷ rows) (next, one, more) =
    let rest = given_sorted next rows more in
    let lt = λ (a b : Record). is_lt (record_cmp merge.order a b) in
    let behind = All-tail (λ other. IsNotBelow merge.order other row) row next.left
    (All-permutation (λ other. IsNotBelow merge.order other row) merge.left (row ∷ next.left) one.taken one.first)
    in record {
      same = IsPermutation-trans _ _ _ one.taken (IsPermutation-cons row next.left rows rest.same);
      ascending = sorted-cons lt (record_weak merge.order) row rows
          (All-permutation (λ other. IsNotBelow merge.order other row) next.left rows rest.same behind)
          (subst (λ parts. IsAscending parts rows) one.order rest.ascending);
    }

pub given_in_place : (merge : Merging) (rows : List Record) → IsTrue merge.in_order → GivesAll merge rows
    → rows ≡ merge.left
given_in_place merge [] in_order none = sym none
given_in_place merge (row ∷ rows) in_order (next, one, more) =
    ap (λ l. row ∷ l) (given_in_place next rows (one.in_order ∙ in_order) more) ∙ sym (one.in_place in_order)
