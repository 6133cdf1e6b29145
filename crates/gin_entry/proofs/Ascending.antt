-- Lists that ascend strictly: a set has one.
use Rattle.std.proofs.Common.{◌≡◌, ◌⊎◌, List, [], ◌∷◌, map, refl, sym, ap, subst, ◌∙◌, inl, inr, Ordering, Less, Equal, Greater}
use Rattle.std.specs.Prelude.{Contains}
use Rattle.std.specs.Cmp.{IsTotalOrder}
use Rattle.std.specs.Ordering.{ordering_reverse}
use Rattle.std.specs.List.{AllByRecursion}
use Rattle.std.specs.List.Sorted.{IsStrictlySortedBy}
use Rattle.std.proofs.lemmas.Cmp.{tied_itself}
use Rattle.std.proofs.lemmas.List.Elements.{All-from_recursion, All-contains}
use Rattle.std.proofs.lemmas.Map.Keys.{sorted_head, sorted_tail}
use Rattle.gin_entry.proofs.Members.{Contains-head, Contains-behind, Contains-nil, Contains-cases}

module _ {X : Type 0} {R : X → X → Ordering} (order : IsTotalOrder R) where
  -- the first is below each behind it
  pub head_below : (x z : X) (xs : List X) → IsStrictlySortedBy R (x ∷ xs) → Contains xs z → R x z ≡ Less
  head_below x z xs sorted there =
      All-contains (λ y. R x y ≡ Less) xs z (All-from_recursion (λ y. R x y ≡ Less) xs (sorted_head R x xs sorted)) there

  not_both : (x y : X) → R x y ≡ Less → R y x ≡ Less → ⊥
  not_both x y below above =
      let turned : R x y ≡ Greater = order.antisymm x y ∙ ap ordering_reverse above in
      cc

  not_below_itself : (x : X) → R x x ≡ Less → ⊥
  not_below_itself x below = let level : R x x ≡ Equal = tied_itself order x in cc

  -- two lists that ascend and have the same elements are the same list
  pub same_list : (xs ys : List X) → IsStrictlySortedBy R xs → IsStrictlySortedBy R ys
      → ((z : X) → Contains xs z → Contains ys z) → ((z : X) → Contains ys z → Contains xs z) → xs ≡ ys
  same_list [] [] up up' there back = refl
  same_list [] (y ∷ ys) up up' there back = absurd (Contains-nil y (back y (Contains-head y ys)))
  same_list (x ∷ xs) [] up up' there back = absurd (Contains-nil x (there x (Contains-head x xs)))
  same_list (x ∷ xs) (y ∷ ys) up up' there back =
      let head : x ≡ y = first (Contains-cases y x ys (there x (Contains-head x xs))) (Contains-cases x y xs (back y (Contains-head y ys))) in
      let tail : xs ≡ ys = same_list xs ys (sorted_tail R x xs up) (sorted_tail R y ys up')
      (λ z inside. elim (Contains-cases y z ys (there z (Contains-behind x z xs inside))) [
        | inl same ↦ absurd (not_below_itself x (subst (λ v. R x v ≡ Less) (sym (head ∙ same)) (head_below x z xs up inside)))
        | inr behind ↦ behind
      ])
      (λ z inside. elim (Contains-cases x z xs (back z (Contains-behind y z ys inside))) [
        | inl same ↦ absurd (not_below_itself y (subst (λ v. R y v ≡ Less) (sym (sym head ∙ same)) (head_below y z ys up' inside)))
        | inr behind ↦ behind
      ]) in
      λ i. head i ∷ tail i
    where
      first : (y ≡ x) ⊎ Contains ys x → (x ≡ y) ⊎ Contains xs y → x ≡ y
      first (inl same) other = sym same
      first (inr behind) (inl same) = same
      first (inr behind) (inr behind') = absurd (not_both x y (head_below x y xs up behind') (head_below y x ys up' behind))

  -- two elements of an ascending list that compare equal are one
  pub same_element : (xs : List X) (y z : X) → IsStrictlySortedBy R xs → Contains xs y → Contains xs z → R y z ≡ Equal → y ≡ z
  same_element [] y z up there there' level = absurd (Contains-nil y there)
  same_element (x ∷ xs) y z up there there' level =
      by (Contains-cases x y xs there) (Contains-cases x z xs there')
      (λ behind behind'. same_element xs y z (sorted_tail R x xs up) behind behind' level)
    where
      by : (x ≡ y) ⊎ Contains xs y → (x ≡ z) ⊎ Contains xs z → (Contains xs y → Contains xs z → y ≡ z) → y ≡ z
      by (inl same) (inl same') both = sym same ∙ same'
      by (inl same) (inr behind) both =
          let below : R y z ≡ Less = subst (λ v. R v z ≡ Less) same (head_below x z xs up behind) in
          cc
      by (inr behind) (inl same) both =
          let below : R z y ≡ Less = subst (λ v. R v y ≡ Less) same (head_below x y xs up behind) in
          let above : R y z ≡ Greater = order.antisymm y z ∙ ap ordering_reverse below in
          cc
      by (inr behind) (inr behind') both = both behind behind'

-- a list ascends as what a function makes of its elements
module _ {X Y : Type 0} (f : X → Y) (R : Y → Y → Ordering) where
  all_map : (P : Y → Type 0) (xs : List X) → AllByRecursion P (map f xs) → AllByRecursion (λ x. P (f x)) xs
  all_map P [] all = tt
  all_map P (x ∷ xs) all = (all.0, all_map P xs all.1)

  map_all : (P : Y → Type 0) (xs : List X) → AllByRecursion (λ x. P (f x)) xs → AllByRecursion P (map f xs)
  map_all P [] all = tt
  map_all P (x ∷ xs) all = (all.0, map_all P xs all.1)

  pub sorted_from_map : (xs : List X) → IsStrictlySortedBy R (map f xs) → IsStrictlySortedBy (λ x y. R (f x) (f y)) xs
  unfolding IsStrictlySortedBy
  sorted_from_map [] up = tt
  sorted_from_map (x ∷ xs) up = (all_map (λ y. R (f x) y ≡ Less) xs up.0, sorted_from_map xs up.1)

  pub map_sorted : (xs : List X) → IsStrictlySortedBy (λ x y. R (f x) (f y)) xs → IsStrictlySortedBy R (map f xs)
  unfolding IsStrictlySortedBy
  map_sorted [] up = tt
  map_sorted (x ∷ xs) up = (map_all (λ y. R (f x) y ≡ Less) xs up.0, map_sorted xs up.1)
