-- Lists of views: a step changes one view, so a sum over all views changes by that view alone.
use Rattle.std.proofs.Common.{◌≡◌, ℕ, zero, suc, ◌+◌, ◌<◌, ◌≤◌, eqb, Bool, true, false, cond, List, [], ◌∷◌, ◌++◌, length, get_or, set, sum_by, All, Contains, sym, refl, ap, subst, arith}
use mathlib.Core.Option.{some, some-injective, some-ne-none}
use lib.ListN.{get_elem?}
use Rattle.std.proofs.lemmas.List.Sums.{sum_by-cons, sum_by-append}
use Rattle.std.proofs.lemmas.Bool.Decides.{nat_tests}
use Rattle.block_claim.specs.Views.{times}

module _ {A : Type 0} where
  pub at_length : (xs : List A) (i : ℕ) (v : A) → get_elem? xs i ≡ some v → i < length xs
  at_length [] i v e = absurd (some-ne-none v (sym e))
  at_length (x ∷ xs) zero v e = omega arith
  at_length (x ∷ xs) (suc i) v e = let h = at_length xs i v e in omega arith

  pub at_get : (xs : List A) (i : ℕ) (v d : A) → get_elem? xs i ≡ some v → get_or xs i d ≡ v
  at_get [] i v d e = absurd (some-ne-none v (sym e))
  at_get (x ∷ xs) zero v d e = some-injective x v e
  at_get (x ∷ xs) (suc i) v d e = at_get xs i v d e

  pub set_at : (xs : List A) (i : ℕ) (v w : A) → get_elem? xs i ≡ some v → get_elem? (set xs i w) i ≡ some w
  set_at [] i v w e = absurd (some-ne-none v (sym e))
  set_at (x ∷ xs) zero v w e = refl
  set_at (x ∷ xs) (suc i) v w e = set_at xs i v w e

  -- what holds of each element holds of the one at i
  pub all_at : (P : A → Type 0) (xs : List A) (i : ℕ) (v : A) → All P xs → get_elem? xs i ≡ some v → P v
  all_at P xs i v h e = subst P (at_get xs i v v e) (h i v (at_length xs i v e))

  pub all_head : (P : A → Type 0) (x : A) (xs : List A) → All P (x ∷ xs) → P x
  all_head P x xs h = h 0 x (omega arith)

  pub all_tail : (P : A → Type 0) (x : A) (xs : List A) → All P (x ∷ xs) → All P xs
  all_tail P x xs h k d below = h (suc k) d (omega arith)

  pub all_to : (P Q : A → Type 0) (xs : List A) → ((x : A) → P x → Q x) → All P xs → All Q xs
  all_to P Q xs f h k d below = f (get_or xs k d) (h k d below)

  pub all_one : (P : A → Type 0) (x : A) → P x → All P (x ∷ [])
  all_one P x p zero d below = p
  all_one P x p (suc k) d below = absurd (omega arith)

  pub sum_set : (f : A → ℕ) (xs : List A) (i : ℕ) (v w : A) → get_elem? xs i ≡ some v → sum_by f (set xs i w) + f v ≡ sum_by f xs + f w
  sum_set f [] i v w e = absurd (some-ne-none v (sym e))
  sum_set f (x ∷ xs) zero v w e =
      let h : f x ≡ f v = ap f (some-injective x v e) in
      omega (arith, sum_by-cons f x xs, sum_by-cons f w xs)
  sum_set f (x ∷ xs) (suc i) v w e =
      let h = sum_set f xs i v w e in
      omega (arith, sum_by-cons f x xs, sum_by-cons f x (set xs i w))

  pub sum_part : (f : A → ℕ) (xs : List A) (i : ℕ) (v : A) → get_elem? xs i ≡ some v → f v ≤ sum_by f xs
  sum_part f [] i v e = absurd (some-ne-none v (sym e))
  sum_part f (x ∷ xs) zero v e =
      let h : f x ≡ f v = ap f (some-injective x v e) in
      omega (arith, sum_by-cons f x xs)
  sum_part f (x ∷ xs) (suc i) v e =
      let h = sum_part f xs i v e in
      omega (arith, sum_by-cons f x xs)

  -- two elements at different places have no more than the sum
  pub sum_two : (f : A → ℕ) (xs : List A) (i j : ℕ) (v w : A) → (j ≡ i → ⊥) → get_elem? xs i ≡ some v → get_elem? xs j ≡ some w → f v + f w ≤ sum_by f xs
  sum_two f [] i j v w apart e d = absurd (some-ne-none v (sym e))
  sum_two f (x ∷ xs) zero zero v w apart e d = absurd (apart refl)
  sum_two f (x ∷ xs) zero (suc j) v w apart e d =
      let h : f x ≡ f v = ap f (some-injective x v e) in
      let part = sum_part f xs j w d in
      omega (arith, sum_by-cons f x xs)
  sum_two f (x ∷ xs) (suc i) zero v w apart e d =
      let h : f x ≡ f w = ap f (some-injective x w d) in
      let part = sum_part f xs i v e in
      omega (arith, sum_by-cons f x xs)
  sum_two f (x ∷ xs) (suc i) (suc j) v w apart e d =
      let h = sum_two f xs i j v w (λ same. apart (ap suc same)) e d in
      omega (arith, sum_by-cons f x xs)

  pub sum_snoc : (f : A → ℕ) (xs : List A) (w : A) → sum_by f (xs ++ w ∷ []) ≡ sum_by f xs + f w
  sum_snoc f xs w = omega (arith, sum_by-append f xs (w ∷ []), sum_by-cons f w [])

  sum_none : (share f : A → ℕ) (xs : List A) → sum_by share xs ≡ 0 → All (λ u. share u ≡ 0 → f u ≡ 0) xs → sum_by f xs ≡ 0
  sum_none share f [] none h = refl
  sum_none share f (x ∷ xs) none h =
      let s = sum_by-cons share x xs in
      let here : f x ≡ 0 = all_head (λ u. share u ≡ 0 → f u ≡ 0) x xs h (omega arith) in
      let there = sum_none share f xs (omega arith) (all_tail (λ u. share u ≡ 0 → f u ≡ 0) x xs h) in
      omega (arith, sum_by-cons f x xs)

  -- where one element has the whole share, a sum is that of the element alone
  pub sum_only : (share f : A → ℕ) (xs : List A) (i : ℕ) (v : A) → get_elem? xs i ≡ some v → sum_by share xs ≡ share v → All (λ u. share u ≡ 0 → f u ≡ 0) xs → sum_by f xs ≡ f v
  sum_only share f [] i v e whole h = absurd (some-ne-none v (sym e))
  sum_only share f (x ∷ xs) zero v e whole h =
      let same : share x ≡ share v = ap share (some-injective x v e) in
      let same' : f x ≡ f v = ap f (some-injective x v e) in
      let s = sum_by-cons share x xs in
      let others = sum_none share f xs (omega arith) (all_tail (λ u. share u ≡ 0 → f u ≡ 0) x xs h) in
      omega (arith, sum_by-cons f x xs)
  sum_only share f (x ∷ xs) (suc i) v e whole h =
      let s = sum_by-cons share x xs in
      let part = sum_part share xs i v e in
      let here : f x ≡ 0 = all_head (λ u. share u ≡ 0 → f u ≡ 0) x xs h (omega arith) in
      let others = sum_only share f xs i v e (omega arith) (all_tail (λ u. share u ≡ 0 → f u ≡ 0) x xs h) in
      omega (arith, sum_by-cons f x xs)

-- an element stands in the list at least once
pub times_in : (n : ℕ) (xs : List ℕ) → Contains xs n → 1 ≤ times n xs
times_in n [] c = absurd (omega (arith, c.1))
times_in n (x ∷ xs) (zero, below, same) =
    let s = sum_by-cons (λ (y : ℕ). cond (eqb y n) 1 0) x xs in
    let one : 1 ≤ cond (eqb x n) 1 0 = grind (arith, nat_tests, same) in
    omega arith
times_in n (x ∷ xs) (suc k, below, same) =
    let s = sum_by-cons (λ (y : ℕ). cond (eqb y n) 1 0) x xs in
    let h = times_in n xs (k, omega arith, same) in
    omega arith

-- one that stands in it at least once is an element
pub in_times : (n : ℕ) (xs : List ℕ) → 1 ≤ times n xs → Contains xs n
in_times n [] h = absurd (omega arith)
in_times n (x ∷ xs) h = go (in_times n xs) (eqb x n) refl
  where
    go : (1 ≤ times n xs → Contains xs n) → (b : Bool) → eqb x n ≡ b → Contains (x ∷ xs) n
    go later true e = (0, omega arith, grind (arith, nat_tests))
    go later false e =
        let s = sum_by-cons (λ (y : ℕ). cond (eqb y n) 1 0) x xs in
        let none : cond (eqb x n) 1 0 ≤ 0 = grind (arith, nat_tests) in
        let c = later (omega arith) in
        (suc c.0, omega (arith, c.1), c.2)

-- a sum of numbers that are the same place by place is the same
pub sum_by_place : {A : Type 0} (f : A → ℕ) (xs ys : List A) → length ys ≡ length xs → ((i : ℕ) (d : A) → i < length xs → f (get_or ys i d) ≡ f (get_or xs i d)) → sum_by f ys ≡ sum_by f xs
sum_by_place f [] [] len same = refl
sum_by_place f [] (y ∷ ys) len same = absurd (omega arith)
sum_by_place f (x ∷ xs) [] len same = absurd (omega arith)
sum_by_place f (x ∷ xs) (y ∷ ys) len same =
    let here = same 0 x (omega arith) in
    let there = sum_by_place f xs ys (omega arith) (λ i d below. same (suc i) d (omega arith)) in
    omega (arith, sum_by-cons f x xs, sum_by-cons f y ys)

pub sum_of_none : {A : Type 0} (f : A → ℕ) (xs : List A) → length xs ≡ 0 → sum_by f xs ≡ 0
sum_of_none f [] none = refl
sum_of_none f (x ∷ xs) none = absurd (omega arith)
