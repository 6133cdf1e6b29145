-- Which lists of claims a scan may end with, whatever the order in which its workers made them.
use Rattle.std.specs.Prelude.{◌≡◌, ℕ, ◌+◌, ◌<◌, ◌≤◌, ◌&&◌, Bool, true, ltb, leb, List, if◌then◌else◌}
use Rattle.std.specs.List.{All, AllPairs, count_by, sum_by}
use Rattle.block_claim.specs.declared.claim.Claim.{Claim}
use Rattle.block_claim.specs.Ramp.{FollowsRamp, ramp_at_start, ramp_of, claims_by}

-- 1 for a number below the end, else 0
abbrev pub once_below : ℕ → ℕ → ℕ
once_below n end = if ltb n end then 1 else 0

-- whether a number is one of a claim's
abbrev pub lies_in : ℕ → Claim → Bool
lies_in n c = leb c.first n && ltb n (c.first + c.size)

-- in how many claims a number lies
abbrev pub times_claimed : ℕ → List Claim → ℕ
times_claimed n claims = count_by (lies_in n) claims

-- how many numbers claims have together
abbrev pub numbers_of : List Claim → ℕ
numbers_of claims = sum_by (λ c. c.size) claims

-- each number below the end lies in exactly one claim, and no other number lies in any
abbrev pub TilesBelow : ℕ → List Claim → Type 0
TilesBelow end claims = (n : ℕ) → times_claimed n claims ≡ once_below n end

abbrev pub AscendsByFirst : List Claim → Type 0
AscendsByFirst claims = AllPairs (λ a b. a.first < b.first) claims

-- claims of one worker that begin at its first chunk, follow the ramp, and end with the one that makes it done
pub record IsWholeRamp (blocks : ℕ) (claims : List Claim) : Type 0 where
  pub ramp : FollowsRamp blocks (ramp_at_start blocks) claims
  pub ascending : AscendsByFirst claims
  pub done : (ramp_of blocks claims).done ≡ true

-- legal but for the order in which the workers stand: every worker went to its end, and the claims tile the numbers
pub record IsLegalInSomeOrder (blocks seats : ℕ) (claims : List Claim) : Type 0 where
  pub workers : All (λ c. c.worker < seats) claims
  pub ramps : (worker : ℕ) → worker < seats → IsWholeRamp blocks (claims_by worker claims)
  pub tiles : TilesBelow (numbers_of claims) claims

abbrev pub StandsWorkerByWorker : List Claim → Type 0
StandsWorkerByWorker claims = AllPairs (λ a b. a.worker ≤ b.worker) claims

-- the claims of a whole scan of so many blocks by so many seats, worker by worker
pub record IsLegal (blocks seats : ℕ) (claims : List Claim) : Type 0 where
  pub in_order : StandsWorkerByWorker claims
  pub legal : IsLegalInSomeOrder blocks seats claims
