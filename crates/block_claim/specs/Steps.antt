-- What each kind of step tells the seat that makes it. A step is of the word, the operand and the number found; a seat is its
-- view and the slots that it holds, of which a scan has none.
use Rattle.std.specs.Prelude.{◌≡◌, ℕ, ◌+◌, ◌^◌, ◌≤◌, length}
use Rattle.atomic_table.specs.Table.{Me, Step}
use Rattle.block_claim.specs.declared.view.View.{View}
use Rattle.block_claim.specs.Ramp.{claim_at}
use Rattle.block_claim.specs.Views.{first_worker, times, with_claim, with_report, with_seen, KnowsTheScan}

-- claim: the number found begins the claim of the seat's worker, and is so small that no sum of it wraps; and there is room
-- for the claim
pub record ClaimsFrom {S : Type 0} (step : Step S) (me : Me S View) (found : ℕ) (after : Me S View) : Type 0 where
  pub claim : after ≡ (with_claim me.0 (claim_at me.0.blocks (first_worker me.0.workers) me.0.claims found), me.1)
  pub small : found ≤ 2 ^ 53
  pub few : length after.0.claims ≤ me.0.blocks + me.0.seats
  pub knows : KnowsTheScan after.0

-- join, once the two views are one: no worker stands in it twice, and there is room for its claims
pub record LooksJoined {S : Type 0} (step : Step S) (me : Me S View) (found : ℕ) (after : Me S View) : Type 0 where
  pub same : after ≡ me
  pub workers : (worker : ℕ) → times worker me.0.workers ≤ 1
  pub few : length me.0.claims ≤ me.0.blocks + me.0.seats
  pub knows : KnowsTheScan after.0

-- floor: the seat has seen the floor, which is no more than what it had seen
pub record SeesFloor {S : Type 0} (step : Step S) (me : Me S View) (found : ℕ) (after : Me S View) : Type 0 where
  pub seen : after ≡ (with_seen me.0 found, me.1)
  pub falls : found ≤ me.0.seen
  pub knows : KnowsTheScan after.0

-- report: the block is a report, and the seat has seen the floor with it
pub record Reports {S : Type 0} (step : Step S) (me : Me S View) (found : ℕ) (after : Me S View) : Type 0 where
  pub report : after ≡ (with_report me.0 step.first found, me.1)
  pub falls : found ≤ me.0.seen
  pub knows : KnowsTheScan after.0
