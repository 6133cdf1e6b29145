-- What stays when the items of a list change places.
use Rattle.std.proofs.Common.{◌≡◌, ℕ, zero, suc, ◌+◌, ◌-◌, ◌<◌, Bool, true, false, cond, List, [], ◌∷◌, ◌++◌, length, take, drop, refl, sym, ap, subst, ◌∙◌, arith, slice_index_or, slice_set, append_assoc, filter}
use Rattle.std.specs.List.{swap, swap_remove, flat_map}
use Rattle.std.specs.List.Sorted.{IsPermutation}
use Rattle.std.proofs.lemmas.List.{take_more, take_all, drop_all}
use Rattle.std.proofs.lemmas.List.Edits.{swap_is}
use Rattle.std.proofs.lemmas.List.Sorted.{IsPermutation-refl, IsPermutation-trans, IsPermutation-cons, IsPermutation-keeps, IsPermutation-append_comm, IsPermutation-append_left, IsPermutation-append_right, IsPermutation-to_front, length_permutation}

pub append-nil : {X : Type 0} (xs : List X) → xs ++ [] ≡ xs
append-nil [] = refl
append-nil (x ∷ xs) = ap (λ l. x ∷ l) (append-nil xs)

-- a relation of lists that holds where two neighbours change places holds of any two orders
module _ {X : Type 0} (P : List X → List X → Type 0) (same : (xs : List X) → P xs xs)
    (chain : (xs ys zs : List X) → P xs ys → P ys zs → P xs zs)
    (keep : (x : X) (xs ys : List X) → P xs ys → P (x ∷ xs) (x ∷ ys)) (turn : (x y : X) (xs : List X)
    → P (x ∷ y ∷ xs) (y ∷ x ∷ xs)) where
  front : (x : X) (xs : List X) (k : ℕ) → k < length xs → P (x ∷ xs) (slice_index_or xs k x ∷ slice_set xs k x)
  front x [] k h = absurd (omega arith)
  front x (y ∷ ys) zero h = turn x y ys
  front x (y ∷ ys) (suc k) h =
      chain _ _ _ (turn x y ys) (chain _ _ _ (keep y _ _ (front x ys k (omega arith)))
      (turn y (slice_index_or ys k x) (slice_set ys k x)))

  exchange : (xs : List X) (i j : ℕ) → i < length xs → j < length xs → P xs (swap xs i j)
  exchange [] i j a b = absurd (omega arith)
  exchange (x ∷ xs) zero zero a b = same _
  exchange (x ∷ xs) zero (suc j) a b = front x xs j (omega arith)
  exchange (x ∷ xs) (suc i) zero a b = front x xs i (omega arith)
  exchange (x ∷ xs) (suc i) (suc j) a b =
      subst (λ ys. P (x ∷ xs) (x ∷ ys)) (sym (swap_is xs i j x (omega arith) (omega arith)))
      (keep x _ _ (exchange xs i j (omega arith) (omega arith)))

  pub moves : (xs ys : List X) → IsPermutation xs ys → P xs ys
  moves xs ys p = IsPermutation-keeps xs (λ l. P xs l) (same xs) (λ l i j a b h. chain _ _ _ h (exchange l i j a b))
      ys p

pub turn_lists : {X : Type 0} (xs ys zs : List X) → IsPermutation (xs ++ (ys ++ zs)) (ys ++ (xs ++ zs))
turn_lists xs ys zs =
    rw (← append_assoc xs ys zs, ← append_assoc ys xs zs) (IsPermutation-append_left zs (xs ++ ys) (ys ++ xs)
    (IsPermutation-append_comm xs ys))

pub IsPermutation-flat_map : {X Y : Type 0} (f : X → List Y) (xs ys : List X) → IsPermutation xs ys
    → IsPermutation (flat_map f xs) (flat_map f ys)
IsPermutation-flat_map f xs ys p =
    moves (λ a b. IsPermutation (flat_map f a) (flat_map f b)) (λ a. IsPermutation-refl _)
    (λ a b c. IsPermutation-trans _ _ _)
    (λ x a b. IsPermutation-append_right (f x) _ _) (λ x y a. turn_lists (f x) (f y) (flat_map f a)) xs ys p

cond-keep : {X : Type 0} (b : Bool) (x : X) (xs ys : List X) → IsPermutation xs ys
    → IsPermutation (cond b (x ∷ xs) xs) (cond b (x ∷ ys) ys)
cond-keep true x xs ys p = IsPermutation-cons x xs ys p
cond-keep false x xs ys p = p

cond-turn : {X : Type 0} (b c : Bool) (x y : X) (xs : List X)
    → IsPermutation (cond b (x ∷ cond c (y ∷ xs) xs) (cond c (y ∷ xs) xs))
    (cond c (y ∷ cond b (x ∷ xs) xs) (cond b (x ∷ xs) xs))
cond-turn true true x y xs = IsPermutation-append_left xs (x ∷ y ∷ []) (y ∷ x ∷ [])
    (IsPermutation-append_comm (x ∷ []) (y ∷ []))
cond-turn true false x y xs = IsPermutation-refl _
cond-turn false true x y xs = IsPermutation-refl _
cond-turn false false x y xs = IsPermutation-refl _

pub IsPermutation-filter : {X : Type 0} (test : X → Bool) (xs ys : List X) → IsPermutation xs ys
    → IsPermutation (filter test xs) (filter test ys)
IsPermutation-filter test xs ys p =
    moves (λ a b. IsPermutation (filter test a) (filter test b)) (λ a. IsPermutation-refl _)
    (λ a b c. IsPermutation-trans _ _ _)
    (λ x a b. cond-keep (test x) x _ _) (λ x y a. cond-turn (test x) (test y) x y (filter test a)) xs ys p

-- the last takes the place of the first: the others are as they were, in another order
pub without_first : {X : Type 0} (x : X) (xs : List X) (d : X) → IsPermutation xs (swap_remove (x ∷ xs) 0 d)
without_first x [] d = IsPermutation-refl _
without_first x (y ∷ ys) d =
    let n = length ys in
    let all : y ∷ ys ≡ take n (y ∷ ys) ++ slice_index_or (y ∷ ys) n d ∷ [] = sym
    (take_all (n + 1) (y ∷ ys) (omega arith)) ∙ take_more (y ∷ ys) n d (omega arith) in
    let first : take (length (x ∷ y ∷ ys) - 1) (slice_index_or (x ∷ y ∷ ys) (length (x ∷ y ∷ ys) - 1) d ∷ y ∷ ys) ≡
    slice_index_or (y ∷ ys) n d ∷ take n (y ∷ ys) =
    (let e : length (x ∷ y ∷ ys) - 1 ≡ suc n = omega arith in ap (λ (k : ℕ). take k
    (slice_index_or (x ∷ y ∷ ys) k d ∷ y ∷ ys)) e) in
    subst (λ l. IsPermutation l (swap_remove (x ∷ y ∷ ys) 0 d)) (sym all)
    (subst (IsPermutation (take n (y ∷ ys) ++ slice_index_or (y ∷ ys) n d ∷ [])) (sym first)
    (IsPermutation-to_front (take n (y ∷ ys)) (slice_index_or (y ∷ ys) n d)))

-- a vector's items after they changed places in the slice of them
pub whole_slice : {X : Type 0} (n : ℕ) (xs ys : List X) → n ≡ length xs → IsPermutation xs ys
    → take n (ys ++ drop (length ys) xs) ≡ ys
whole_slice {X} n xs ys e p =
    let same = length_permutation xs ys p in
    ap (λ (l : List X). take n (ys ++ l)) (drop_all (length ys) xs (omega (arith, same)))
    ∙ ap (λ (l : List X). take n l) (append-nil ys) ∙ take_all n ys (omega (arith, same, e))
