-- Lists in which no item is below the one before it.
use Rattle.std.proofs.Common.{◌≡◌, ℕ, zero, suc, ◌+◌, ◌-◌, ◌<◌, Bool, true, false, List, [], ◌∷◌, ◌++◌, length, drop, refl, sym, subst, arith, slice_index_or, All}
use Rattle.std.specs.Cmp.{IsStrictWeakOrder}
use Rattle.std.specs.List.{slice_range}
use Rattle.std.specs.List.Sorted.{IsSortedBy}
use Rattle.std.proofs.lemmas.List.{drop_more}
use Rattle.std.proofs.lemmas.List.Elements.{All-append, All-cons, All-head, All-tail, All-take}
use Rattle.std.proofs.lemmas.List.Sorted.{sorted_far}

module _ {X : Type 0} (lt : X → X → Bool) (o : IsStrictWeakOrder lt) where
  -- none of these is below an item
  abbrev pub NoneBelow : X → List X → Type 0
  NoneBelow x xs = All (λ y. lt y x ≡ false) xs

  pub never_below_itself : (x : X) → lt x x ≡ false
  never_below_itself x = by_test (lt x x) refl
    where
      by_test : (v : Bool) → lt x x ≡ v → lt x x ≡ false
      by_test true e = o.one_way x x e
      by_test false e = e

  pub sorted-cons : (x : X) (xs : List X) → NoneBelow x xs → IsSortedBy lt xs → IsSortedBy lt (x ∷ xs)
  sorted-cons x xs first rest zero d a b = first 0 d (omega arith)
  sorted-cons x xs first rest (suc k) d a b =
      let e : suc k + 1 ≡ suc (k + 1) = omega arith in
      rw e (rest k d (omega arith) (omega arith))

  pub sorted-head : (x : X) (xs : List X) → IsSortedBy lt (x ∷ xs) → NoneBelow x xs
  sorted-head x xs up k d h = sorted_far lt o (x ∷ xs) up 0 (suc k) d (omega arith) (omega arith)

  pub sorted-tail : (x : X) (xs : List X) → IsSortedBy lt (x ∷ xs) → IsSortedBy lt xs
  sorted-tail x xs up k d a b =
      let e : suc k + 1 ≡ suc (k + 1) = omega arith in
      rw e at (up (suc k) d (omega arith) (omega arith))

  pub sorted-nil : IsSortedBy lt []
  sorted-nil k d a b = absurd (omega arith)

  pub sorted-one : (x : X) → IsSortedBy lt (x ∷ [])
  sorted-one x k d a b = absurd (omega arith)

  pub sorted-append : (xs ys : List X) → IsSortedBy lt xs → IsSortedBy lt ys → All (λ x. NoneBelow x ys) xs
      → IsSortedBy lt (xs ++ ys)
  sorted-append [] ys up vp below = vp
  sorted-append (x ∷ xs) ys up vp below =
      sorted-cons x (xs ++ ys) (All-append (λ y. lt y x ≡ false) xs ys (sorted-head x xs up)
      (All-head (λ z. NoneBelow z ys) x xs below))
      (sorted-append xs ys (sorted-tail x xs up) vp (All-tail (λ z. NoneBelow z ys) x xs below))

  pub sorted-drop : (n : ℕ) (xs : List X) → IsSortedBy lt xs → IsSortedBy lt (drop n xs)
  sorted-drop zero xs up = up
  sorted-drop (suc n) [] up = up
  sorted-drop (suc n) (x ∷ xs) up = sorted-drop n xs (sorted-tail x xs up)

  -- the first of a range is none of the range below it
  pub range_first : (xs : List X) (a b : ℕ) (d : X) → IsSortedBy lt xs → a < length xs
      → NoneBelow (slice_index_or xs a d) (slice_range xs a b)
  range_first xs a b d up h =
      let first = slice_index_or xs a d in
      let rest = drop (a + 1) xs in
      let split = drop_more xs a d h in
      All-take (λ y. lt y first ≡ false) (b - a) (drop a xs)
      (subst (NoneBelow first) (sym split)
      (All-cons (λ y. lt y first ≡ false) first rest (never_below_itself first)
      (sorted-head first rest (subst (IsSortedBy lt) split (sorted-drop a xs up)))))
