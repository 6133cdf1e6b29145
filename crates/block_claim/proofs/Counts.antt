-- Claims that no number lies in twice: how many there are, and how many numbers below an end they have.
use Rattle.std.proofs.Common.{◌≡◌, ℕ, zero, suc, ◌+◌, ◌-◌, ◌<◌, ◌≤◌, min, eqb, ltb, leb, ◌&&◌, Bool, true, false, cond, List, [], ◌∷◌, length, sum_by, count_by, All, Contains, sym, refl, subst, arith}
use Rattle.std.proofs.lemmas.List.Sums.{sum_by-cons}
use Rattle.std.proofs.lemmas.Bool.Decides.{nat_tests}
use Rattle.block_claim.specs.declared.claim.Claim.{Claim}
use Rattle.block_claim.specs.Ramp.{claims_by}
use Rattle.block_claim.specs.Legal.{lies_in, times_claimed}
use Rattle.block_claim.proofs.Lists.{all_head, all_tail}

-- how many of a claim's numbers are below the end
pub covered : ℕ → Claim → ℕ
covered end c = min (c.first + c.size) end - min c.first end

covered_one : (n first size : ℕ) → min (first + size) (suc n) - min first (suc n) ≡ (min (first + size) n - min first n) + cond (leb first n && ltb n (first + size)) 1 0
covered_one n first size = grind (arith, nat_tests)

covered_more : (n : ℕ) (claims : List Claim) → sum_by (covered (suc n)) claims ≡ sum_by (covered n) claims + times_claimed n claims
unfolding covered
covered_more n [] = refl
covered_more n (c ∷ cs) =
    let h = covered_more n cs in
    let one = covered_one n c.first c.size in
    omega (arith, sum_by-cons (covered (suc n)) c cs, sum_by-cons (covered n) c cs, sum_by-cons (λ (x : Claim). cond (lies_in n x) 1 0) c cs)

covered_none : (claims : List Claim) → sum_by (covered 0) claims ≡ 0
unfolding covered
covered_none [] = refl
covered_none (c ∷ cs) =
    let h = covered_none cs in
    let none : covered 0 c ≡ 0 = omega arith in
    omega (arith, sum_by-cons (covered 0) c cs)

-- claims that no number lies in twice have at most as many numbers below the end as there are
pub covered_le : (claims : List Claim) → ((n : ℕ) → times_claimed n claims ≤ 1) → (end : ℕ) → sum_by (covered end) claims ≤ end
covered_le claims once zero = omega (arith, covered_none claims)
covered_le claims once (suc n) =
    let h = covered_le claims once n in
    let o = once n in
    omega (arith, covered_more n claims)

-- whether a claim has no block
abbrev pub is_past : ℕ → Claim → Bool
is_past blocks c = leb blocks c.first

few_one : (blocks first size : ℕ) → 1 ≤ size → 1 ≤ (min (first + size) blocks - min first blocks) + cond (leb blocks first) 1 0
few_one blocks first size some = grind (arith, nat_tests)

pub length_le : (blocks : ℕ) (claims : List Claim) → All (λ c. 1 ≤ c.size) claims → length claims ≤ sum_by (covered blocks) claims + count_by (is_past blocks) claims
unfolding covered
length_le blocks [] sizes = omega arith
length_le blocks (c ∷ cs) sizes =
    let h = length_le blocks cs (all_tail (λ (x : Claim). 1 ≤ x.size) c cs sizes) in
    let one = few_one blocks c.first c.size (all_head (λ (x : Claim). 1 ≤ x.size) c cs sizes) in
    omega (arith, sum_by-cons (covered blocks) c cs, sum_by-cons (λ (x : Claim). cond (is_past blocks x) 1 0) c cs)

-- there are at most as many claims as blocks and claims without a block
pub few_claims : (blocks : ℕ) (claims : List Claim) → ((n : ℕ) → times_claimed n claims ≤ 1) → All (λ c. 1 ≤ c.size) claims → length claims ≤ blocks + count_by (is_past blocks) claims
few_claims blocks claims once sizes =
    let a = length_le blocks claims sizes in
    let b = covered_le claims once blocks in
    omega arith

-- how many claims of each of the workers pass a test
split_by : (p : Claim → Bool) (workers : List ℕ) (c : Claim) (cs : List Claim)
    → sum_by (λ w. count_by p (claims_by w (c ∷ cs))) workers ≡ sum_by (λ w. count_by p (claims_by w cs)) workers + sum_by (λ w. cond (eqb c.worker w) (cond (p c) 1 0) 0) workers
split_by p [] c cs = refl
split_by p (w ∷ ws) c cs =
    let h = split_by p ws c cs in
    let here : count_by p (claims_by w (c ∷ cs)) ≡ count_by p (claims_by w cs) + cond (eqb c.worker w) (cond (p c) 1 0) 0 = one (eqb c.worker w) refl in
    omega (
      arith,
      sum_by-cons (λ (v : ℕ). count_by p (claims_by v (c ∷ cs))) w ws,
      sum_by-cons (λ (v : ℕ). count_by p (claims_by v cs)) w ws,
      sum_by-cons (λ (v : ℕ). cond (eqb c.worker v) (cond (p c) 1 0) 0) w ws,
    )
  where
    one : (b : Bool) → eqb c.worker w ≡ b → count_by p (claims_by w (c ∷ cs)) ≡ count_by p (claims_by w cs) + cond (eqb c.worker w) (cond (p c) 1 0) 0
    one true e = rw e (omega (arith, sum_by-cons (λ (x : Claim). cond (p x) 1 0) c (claims_by w cs)))
    one false e = rw e (omega arith)

counts_in : (k n : ℕ) (workers : List ℕ) → Contains workers n → k ≤ sum_by (λ w. cond (eqb n w) k 0) workers
counts_in k n [] c = absurd (omega (arith, c.1))
counts_in k n (w ∷ ws) (zero, below, same) =
    let one : cond (eqb n w) k 0 ≡ k = grind (arith, nat_tests, same) in
    omega (arith, sum_by-cons (λ (v : ℕ). cond (eqb n v) k 0) w ws)
counts_in k n (w ∷ ws) (suc i, below, same) =
    let h = counts_in k n ws (i, omega arith, same) in
    omega (arith, sum_by-cons (λ (v : ℕ). cond (eqb n v) k 0) w ws)

count_split : (p : Claim → Bool) (workers : List ℕ) (claims : List Claim) → All (λ c. Contains workers c.worker) claims → count_by p claims ≤ sum_by (λ w. count_by p (claims_by w claims)) workers
count_split p workers [] own = omega arith
count_split p workers (c ∷ cs) own =
    let h = count_split p workers cs (all_tail (λ (x : Claim). Contains workers x.worker) c cs own) in
    let one = counts_in (cond (p c) 1 0) c.worker workers (all_head (λ (x : Claim). Contains workers x.worker) c cs own) in
    omega (arith, split_by p workers c cs, sum_by-cons (λ (x : Claim). cond (p x) 1 0) c cs)

sum_ones : (f : ℕ → ℕ) (xs : List ℕ) → ((x : ℕ) → f x ≤ 1) → sum_by f xs ≤ length xs
sum_ones f [] h = omega arith
sum_ones f (x ∷ xs) h =
    let one = h x in
    let rest = sum_ones f xs h in
    omega (arith, sum_by-cons f x xs)

-- where each worker has at most one claim that passes, there are at most as many as workers
pub one_each : (p : Claim → Bool) (workers : List ℕ) (claims : List Claim) → All (λ c. Contains workers c.worker) claims → ((w : ℕ) → count_by p (claims_by w claims) ≤ 1) → count_by p claims ≤ length workers
one_each p workers claims own once =
    let a = count_split p workers claims own in
    let b = sum_ones (λ w. count_by p (claims_by w claims)) workers once in
    omega arith

-- a number of a claim lies in it
pub lies_at : (n : ℕ) (claims : List Claim) (c : Claim) → Contains claims c → c.first ≤ n → n < c.first + c.size → 1 ≤ times_claimed n claims
lies_at n [] c there low high = absurd (omega (arith, there.1))
lies_at n (x ∷ xs) c (zero, below, same) low high =
    let one : 1 ≤ cond (lies_in n c) 1 0 = grind (arith, nat_tests) in
    let one' : 1 ≤ cond (lies_in n x) 1 0 = subst (λ (y : Claim). 1 ≤ cond (lies_in n y) 1 0) (sym same) one in
    omega (arith, sum_by-cons (λ (y : Claim). cond (lies_in n y) 1 0) x xs)
lies_at n (x ∷ xs) c (suc k, below, same) low high =
    let h = lies_at n xs c (k, omega arith, same) low high in
    omega (arith, sum_by-cons (λ (y : Claim). cond (lies_in n y) 1 0) x xs)
