-- What follows from the definition of a legal list.
use Rattle.std.proofs.Common.{◌≡◌, ◌≢◌, ◌-◌, inl, inr, ℕ, zero, suc, ◌+◌, ◌<◌, ◌≤◌, eqb, Bool, true, false, List, [], ◌∷◌, length, count_by, filter, All, Contains, refl, ap, ◌∙◌, arith}
use Rattle.std.specs.List.{range_with_len}
use Rattle.block_claim.specs.declared.claim.Claim.{Claim}
use Rattle.block_claim.specs.Ramp.{FollowsRamp, ramp_at_start, claims_by}
use Rattle.block_claim.specs.Legal.{times_claimed, numbers_of, IsLegalInSomeOrder}
use Rattle.block_claim.specs.Laws.{EachBlockIsClaimedOnce, LegalClaimsAreFew}
use Rattle.block_claim.proofs.Lists.{all_to}
use Rattle.block_claim.proofs.Counts.{is_past, few_claims, one_each, lies_at}
use Rattle.block_claim.proofs.Ramps.{past_once, reaches_past, start_in_range, next_in_range, after_in_range, IsInRange}
use Rattle.block_claim.proofs.Whole.{in_range_zero, range_length, once_most, once_some, once_here}
use Rattle.block_claim.specs.Ramp.{Ramp, after_claim}
use Rattle.std.proofs.lemmas.Bool.Decides.{nat_tests}
use Rattle.std.proofs.lemmas.Bool.{cases_lt}
use Rattle.block_claim.proofs.Ramps.{claims_none_by}
use Rattle.block_claim.proofs.Whole.{all_in}
use Rattle.block_claim.proofs.Fits.{all_has}

-- each claim that follows the ramp has a number
sizes_of_ramp : (blocks : ℕ) (r : Ramp) (claims : List Claim) → IsInRange r → FollowsRamp blocks r claims → All (λ c. 1 ≤ c.size) claims
sizes_of_ramp blocks r [] range f k d below = absurd (omega arith)
sizes_of_ramp blocks r (c ∷ cs) range f zero d below = let n = next_in_range blocks r range in let s = f.1 in omega arith
sizes_of_ramp blocks r (c ∷ cs) range f (suc k) d below = sizes_of_ramp blocks (after_claim blocks r c.first) cs (after_in_range blocks r c.first range) f.2 k d (omega arith)

-- an element of a filtered list is one of the list
pub in_filter : (p : Claim → Bool) (xs : List Claim) (x : Claim) → Contains (filter p xs) x → Contains xs x
in_filter p [] x there = there
in_filter p (y ∷ ys) x there = go (p y) refl (in_filter p ys x)
  where
    later : Contains ys x → Contains (y ∷ ys) x
    later there' = (suc there'.0, omega (arith, there'.1), there'.2)

    front : Contains (y ∷ filter p ys) x → (Contains (filter p ys) x → Contains ys x) → Contains (y ∷ ys) x
    front (zero, below, same) down = (0, omega arith, same)
    front (suc k, below, same) down = later (down (k, omega arith, same))

    go : (b : Bool) → p y ≡ b → (Contains (filter p ys) x → Contains ys x) → Contains (y ∷ ys) x
    go true e down = front (rw e at there) down
    go false e down = later (down (rw e at there))

-- and one that passes is in the filtered list
pub filter_has : (p : Claim → Bool) (xs : List Claim) (x : Claim) → p x ≡ true → Contains xs x → Contains (filter p xs) x
filter_has p [] x pass there = absurd (omega (arith, there.1))
filter_has p (y ∷ ys) x pass (zero, below, same) =
    let e : p y ≡ true = ap p same ∙ pass in
    rw e (0, omega arith, same)
filter_has p (y ∷ ys) x pass (suc k, below, same) = go (p y) refl (filter_has p ys x pass (k, omega arith, same))
  where
    go : (b : Bool) → p y ≡ b → Contains (filter p ys) x → Contains (filter p (y ∷ ys)) x
    go true e there = rw e (suc there.0, omega (arith, there.1), there.2)
    go false e there = rw e there

module _ (blocks seats : ℕ) (claims : List Claim) (legal : IsLegalInSomeOrder blocks seats claims) where
  pub once_each : (n : ℕ) → times_claimed n claims ≤ 1
  once_each n =
      let t = legal.tiles n in
      let o = once_most n (numbers_of claims) in
      omega arith

  sizes_by : (w : ℕ) → w < seats → All (λ c. 1 ≤ c.size) (claims_by w claims)
  sizes_by w below = sizes_of_ramp blocks (ramp_at_start blocks) (claims_by w claims) (start_in_range blocks) (legal.ramps w below).ramp

  pub sizes : All (λ c. 1 ≤ c.size) claims
  sizes = all_in (λ (c : Claim). 1 ≤ c.size) claims (λ c there.
      let below : c.worker < seats = all_has (λ (x : Claim). x.worker < seats) claims c legal.workers there in
      let mine : eqb c.worker c.worker ≡ true = grind (arith, nat_tests) in
      all_has (λ (x : Claim). 1 ≤ x.size) (claims_by c.worker claims) c (sizes_by c.worker below) (filter_has (λ (x : Claim). eqb x.worker c.worker) claims c mine there))

  -- of no worker more than one claim has no block
  past_by : (w : ℕ) → count_by (is_past blocks) (claims_by w claims) ≤ 1
  past_by w = elim (cases_lt w seats) as (λ _. count_by (is_past blocks) (claims_by w claims) ≤ 1) [
    | inl below ↦ past_once blocks (ramp_at_start blocks) (claims_by w claims) (legal.ramps w below).ramp (sizes_by w below)
    | inr past ↦ (
        let none : claims_by w claims ≡ [] = claims_none_by w claims (all_to (λ (c : Claim). c.worker < seats) (λ (c : Claim). c.worker ≢ w) claims (λ c below same. omega arith) legal.workers) in
        rw none (omega arith))
  ]

  few_here : length claims ≤ blocks + seats
  few_here =
      let workers = range_with_len 0 seats in
      let own : All (λ c. Contains workers c.worker) claims = all_to (λ (c : Claim). c.worker < seats) (λ (c : Claim). Contains workers c.worker) claims (λ c below. in_range_zero seats c.worker below) legal.workers in
      let a = few_claims blocks claims once_each sizes in
      let b = one_each (is_past blocks) workers claims own past_by in
      let l = range_length 0 seats in
      omega arith

  -- the numbers of the claims reach past the blocks
  pub numbers_past : 0 < seats → blocks < numbers_of claims
  numbers_past some =
      let ramp = legal.ramps 0 some in
      let there = reaches_past blocks (ramp_at_start blocks) (claims_by 0 claims) ramp.ramp refl ramp.done in
      let c = there.0 in
      let past = there.2 in
      let here : Contains claims c = in_filter (λ (x : Claim). eqb x.worker 0) claims c there.1 in
      let size : 1 ≤ c.size = all_has (λ (x : Claim). 1 ≤ x.size) claims c sizes here in
      let one = lies_at (c.first + c.size - 1) claims c here (omega arith) (omega arith) in
      let tile = legal.tiles (c.first + c.size - 1) in
      let below = once_some (c.first + c.size - 1) (numbers_of claims) (omega arith) in
      omega arith

pub few : LegalClaimsAreFew
few blocks seats claims legal = few_here blocks seats claims legal

pub each_once : EachBlockIsClaimedOnce
each_once blocks seats claims block some legal below =
    let past = numbers_past blocks seats claims legal some in
    legal.tiles block ∙ once_here block (numbers_of claims) (omega arith)
