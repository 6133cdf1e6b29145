-- The ramp: its chunks are in range, a claim more follows it, and only the last claim reaches past the blocks.
use Rattle.std.proofs.Common.{◌≡◌, ◌≢◌, ℕ, zero, suc, ◌+◌, ◌<◌, ◌≤◌, eqb, ltb, Bool, true, false, cond, List, [], ◌∷◌, ◌++◌, count_by, All, Contains, sym, refl, ap, ◌∙◌, arith}
use Rattle.std.proofs.lemmas.List.Sums.{sum_by-cons}
use Rattle.std.proofs.lemmas.Bool.Decides.{nat_tests}
use Rattle.block_claim.specs.declared.claim.Claim.{Claim}
use Rattle.block_claim.specs.Ramp.{Ramp, chunk_at_start, ramp_at_start, next_chunk, after_claim, ramp_from, FollowsRamp, claims_by}
use Rattle.block_claim.proofs.Lists.{all_head, all_tail}
use Rattle.block_claim.proofs.Counts.{is_past}

pub record IsInRange (r : Ramp) : Type 0 where
  pub least : 1 ≤ r.chunk
  pub most : r.chunk ≤ 8192

pub start_in_range : (blocks : ℕ) → IsInRange (ramp_at_start blocks)
unfolding chunk_at_start
start_in_range blocks = record { least = grind (arith, nat_tests); most = grind (arith, nat_tests) }

pub next_in_range : (blocks : ℕ) (r : Ramp) → IsInRange r → (1 ≤ next_chunk blocks r) × (next_chunk blocks r ≤ 8192)
unfolding next_chunk
next_in_range blocks r h =
    let a = h.least in
    let b = h.most in
    (grind (arith, nat_tests), grind (arith, nat_tests))

pub after_in_range : (blocks : ℕ) (r : Ramp) (first : ℕ) → IsInRange r → IsInRange (after_claim blocks r first)
unfolding after_claim
after_in_range blocks r first h = let n = next_in_range blocks r h in record { least = n.0; most = n.1 }

pub ramp_in_range : (blocks : ℕ) (r : Ramp) (claims : List Claim) → IsInRange r → IsInRange (ramp_from blocks r claims)
ramp_in_range blocks r [] h = h
ramp_in_range blocks r (c ∷ cs) h = ramp_in_range blocks (after_claim blocks r c.first) cs (after_in_range blocks r c.first h)

pub ramp_snoc : (blocks : ℕ) (r : Ramp) (claims : List Claim) (c : Claim) → ramp_from blocks r (claims ++ c ∷ []) ≡ after_claim blocks (ramp_from blocks r claims) c.first
ramp_snoc blocks r [] c = refl
ramp_snoc blocks r (x ∷ xs) c = ramp_snoc blocks (after_claim blocks r x.first) xs c

pub follows_snoc : (blocks : ℕ) (r : Ramp) (claims : List Claim) (c : Claim) → FollowsRamp blocks r claims → (ramp_from blocks r claims).done ≡ false
    → c.size ≡ next_chunk blocks (ramp_from blocks r claims) → FollowsRamp blocks r (claims ++ c ∷ [])
follows_snoc blocks r [] c f going size = (going, size, tt)
follows_snoc blocks r (x ∷ xs) c f going size = (f.0, f.1, follows_snoc blocks (after_claim blocks r x.first) xs c f.2 going size)

-- a ramp that goes on at the end went on at the start
pub going_at_start : (blocks : ℕ) (r : Ramp) (claims : List Claim) → FollowsRamp blocks r claims → (ramp_from blocks r claims).done ≡ false → r.done ≡ false
going_at_start blocks r [] f going = going
going_at_start blocks r (c ∷ cs) f going = f.0

done_is : (blocks : ℕ) (r : Ramp) (first : ℕ) → (after_claim blocks r first).done ≡ ltb blocks (first + next_chunk blocks r)
unfolding after_claim
done_is blocks r first = refl

goes_on : (blocks : ℕ) (r : Ramp) (first size : ℕ) → size ≡ next_chunk blocks r → (after_claim blocks r first).done ≡ false → first + size ≤ blocks
goes_on blocks r first size same going =
    let d = done_is blocks r first in
    let e : ltb blocks (first + size) ≡ false = ap (λ (k : ℕ). ltb blocks (first + k)) same ∙ (sym d ∙ going) in
    grind (arith, nat_tests)

-- the claims of a worker that isn't done have blocks alone
pub blocks_alone : (blocks : ℕ) (r : Ramp) (claims : List Claim) → FollowsRamp blocks r claims → (ramp_from blocks r claims).done ≡ false → All (λ c. c.first + c.size ≤ blocks) claims
blocks_alone blocks r [] f going k d below = absurd (omega arith)
blocks_alone blocks r (c ∷ cs) f going zero d below = goes_on blocks r c.first c.size f.1 (going_at_start blocks (after_claim blocks r c.first) cs f.2 going)
blocks_alone blocks r (c ∷ cs) f going (suc k) d below = blocks_alone blocks (after_claim blocks r c.first) cs f.2 going k d (omega arith)

-- of the claims of one worker one at most has no block
pub past_once : (blocks : ℕ) (r : Ramp) (claims : List Claim) → FollowsRamp blocks r claims → All (λ c. 1 ≤ c.size) claims → count_by (is_past blocks) claims ≤ 1
past_once blocks r [] f sizes = omega arith
past_once blocks r (c ∷ []) f sizes =
    let one : cond (is_past blocks c) 1 0 ≤ 1 = grind (arith, nat_tests) in
    omega (arith, sum_by-cons (λ (x : Claim). cond (is_past blocks x) 1 0) c [])
past_once blocks r (c ∷ x ∷ xs) f sizes =
    let h = past_once blocks (after_claim blocks r c.first) (x ∷ xs) f.2 (all_tail (λ (y : Claim). 1 ≤ y.size) c (x ∷ xs) sizes) in
    let some = all_head (λ (y : Claim). 1 ≤ y.size) c (x ∷ xs) sizes in
    let within = goes_on blocks r c.first c.size f.1 f.2.0 in
    let none : cond (is_past blocks c) 1 0 ≤ 0 = grind (arith, nat_tests) in
    omega (arith, sum_by-cons (λ (y : Claim). cond (is_past blocks y) 1 0) c (x ∷ xs))

-- a worker that is done has a claim that reaches past the blocks
pub reaches_past : (blocks : ℕ) (r : Ramp) (claims : List Claim) → FollowsRamp blocks r claims → r.done ≡ false → (ramp_from blocks r claims).done ≡ true → (c : Claim) × Contains claims c × (blocks < c.first + c.size)
reaches_past blocks r [] f going done = absurd (cc)
reaches_past blocks r (c ∷ cs) f going done = go (λ h. reaches_past blocks (after_claim blocks r c.first) cs f.2 h done) (after_claim blocks r c.first).done refl
  where
    go : ((after_claim blocks r c.first).done ≡ false → (x : Claim) × Contains cs x × (blocks < x.first + x.size)) → (b : Bool) → (after_claim blocks r c.first).done ≡ b → (x : Claim) × Contains (c ∷ cs) x × (blocks < x.first + x.size)
    go later true e =
        let d : ltb blocks (c.first + c.size) ≡ true = ap (λ (k : ℕ). ltb blocks (c.first + k)) f.1 ∙ (sym (done_is blocks r c.first) ∙ e) in
        (c, (0, omega arith, refl), grind (arith, nat_tests))
    go later false e =
        let there = later e in
        let at = there.1 in
        (there.0, (suc at.0, omega (arith, at.1), at.2), there.2)

-- the claims of a list that are all of one worker, or none of it
pub claims_all_by : (worker : ℕ) (claims : List Claim) → All (λ c. c.worker ≡ worker) claims → claims_by worker claims ≡ claims
claims_all_by worker [] h = refl
claims_all_by worker (c ∷ cs) h =
    let same = all_head (λ (x : Claim). x.worker ≡ worker) c cs h in
    let e : eqb c.worker worker ≡ true = grind (arith, nat_tests) in
    rw e (ap (λ xs. c ∷ xs) (claims_all_by worker cs (all_tail (λ (x : Claim). x.worker ≡ worker) c cs h)))

pub claims_none_by : (worker : ℕ) (claims : List Claim) → All (λ c. c.worker ≢ worker) claims → claims_by worker claims ≡ []
claims_none_by worker [] h = refl
claims_none_by worker (c ∷ cs) h =
    let other = all_head (λ (x : Claim). x.worker ≢ worker) c cs h in
    let e : eqb c.worker worker ≡ false = grind (arith, nat_tests) in
    rw e (claims_none_by worker cs (all_tail (λ (x : Claim). x.worker ≢ worker) c cs h))
