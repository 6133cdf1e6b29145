-- Lists of numbers that have each number as often are permutations of each other.
use Rattle.std.proofs.Common.{◌≡◌, ℕ, zero, suc, ◌+◌, ◌<◌, ◌&&◌, eqb, ltb, leb, Bool, true, false, cond, List, [], ◌∷◌, ◌++◌, filter, Contains, refl, sym, ap, ◌∙◌, inl, inr, arith}
use Rattle.std.specs.List.{range_with_len, remove}
use Rattle.std.specs.List.Sorted.{IsPermutation}
use Rattle.std.proofs.lemmas.Bool.{cases_order}
use Rattle.std.proofs.lemmas.Bool.Decides.{nat_tests}
use Rattle.std.proofs.lemmas.List.Sorted.{IsPermutation-cons, IsPermutation-refl, IsPermutation-remove, IsPermutation-sym, IsPermutation-trans}
use Rattle.run_merge.proofs.Moves.{moves}

-- how often a list has a number
abbrev pub times : ℕ → List ℕ → ℕ
times n [] = 0
times n (x ∷ xs) = cond (eqb n x) 1 0 + times n xs

pub times-append : (n : ℕ) (xs ys : List ℕ) → times n (xs ++ ys) ≡ times n xs + times n ys
times-append n [] ys = omega arith
times-append n (x ∷ xs) ys = let rest = times-append n xs ys in omega arith

range_more : (n a k : ℕ)
    → cond (eqb n a) 1 0 + cond (leb (a + 1) n && ltb n ((a + 1) + k)) 1 0 ≡ cond (leb a n && ltb n (a + suc k)) 1 0
range_more n a k = grind (arith, nat_tests)

pub times-range : (n a k : ℕ) → times n (range_with_len a k) ≡ cond (leb a n && ltb n (a + k)) 1 0
times-range n a zero = grind (arith, nat_tests)
times-range n a (suc k) =
    let rest = times-range n (a + 1) k in
    let more = range_more n a k in
    omega arith

pub times-range_zero : (n k : ℕ) → times n (range_with_len 0 k) ≡ cond (ltb n k) 1 0
times-range_zero n k =
    let same : cond (leb 0 n && ltb n (0 + k)) 1 0 ≡ cond (ltb n k) 1 0 = grind (arith, nat_tests) in
    times-range n 0 k ∙ same

-- the numbers below a bound alone
times-cond : (n x : ℕ) (b : Bool) (xs : List ℕ)
    → times n (cond b (x ∷ xs) xs) ≡ cond b (cond (eqb n x) 1 0 + times n xs) (times n xs)
times-cond n x true xs = refl
times-cond n x false xs = refl

below_more : (x n bound rest all : ℕ) → rest ≡ cond (ltb n bound) all 0
    → cond (ltb x bound) (cond (eqb n x) 1 0 + rest) rest ≡ cond (ltb n bound) (cond (eqb n x) 1 0 + all) 0
below_more x n bound rest all is = grind (arith, nat_tests)

pub times-below : (n bound : ℕ) (xs : List ℕ)
    → times n (filter (λ x. ltb x bound) xs) ≡ cond (ltb n bound) (times n xs) 0
times-below n bound [] = grind (arith, nat_tests)
times-below n bound (x ∷ xs) =
    times-cond n x (ltb x bound) (filter (λ x. ltb x bound) xs)
    ∙ below_more x n bound (times n (filter (λ x. ltb x bound) xs)) (times n xs) (times-below n bound xs)

-- a number that a list has stands in it
pub times_contains : (n : ℕ) (xs : List ℕ) → 0 < times n xs → Contains xs n
times_contains n [] some = absurd (omega arith)
times_contains n (x ∷ xs) some = elim (cases_order x n) [
  | inl same ↦ (0, omega arith, same)
  | inr differ ↦
      let none : ◌≡◌ {A = ℕ} (cond (eqb n x) 1 0) 0 = grind (arith, nat_tests, differ) in
      let behind = times_contains n xs (omega (arith, none, some)) in
      (suc behind.0, omega (arith, behind.1), behind.2)
]

times_moved : (n : ℕ) (xs ys : List ℕ) → IsPermutation xs ys → times n xs ≡ times n ys
times_moved n xs ys p =
    moves (λ (a b : List ℕ). times n a ≡ times n b) (λ a. refl) (λ a b c e f. e ∙ f)
    (λ x a b e. ap (λ (k : ℕ). cond (eqb n x) 1 0 + k) e)
    (λ x y a. let e : times n (x ∷ y ∷ a) ≡ times n (y ∷ x ∷ a) = omega arith in e) xs ys p

itself : (n : ℕ) → ◌≡◌ {A = ℕ} (cond (eqb n n) 1 0) 1
itself n = grind (arith, nat_tests)

pub permuted : (xs ys : List ℕ) → ((n : ℕ) → times n xs ≡ times n ys) → IsPermutation xs ys
permuted [] [] same = IsPermutation-refl []
permuted [] (y ∷ ys) same = absurd (omega (arith, same y, itself y))
permuted (x ∷ xs) ys same =
    let there = times_contains x ys (omega (arith, same x, itself x)) in
    let rest = remove ys there.0 in
    let moved = IsPermutation-remove ys there.0 x there.1 (sym there.2) in
    IsPermutation-trans (x ∷ xs) (x ∷ rest) ys
    (IsPermutation-cons x xs rest
    (permuted xs rest (λ n. let all = times_moved n ys (x ∷ rest) moved in omega (arith, same n, all))))
    (IsPermutation-sym ys (x ∷ rest) moved)
