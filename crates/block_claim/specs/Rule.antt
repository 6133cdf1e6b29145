-- The rule of a scan: what holds of the table's two words and of all views between any two steps.
use Rattle.std.specs.Prelude.{◌≡◌, ℕ, ◌<◌, ◌≤◌, List, [], ◌∷◌, length, slice_index, min}
use Rattle.std.specs.List.{All, Contains, sum_by}
use Rattle.atomic_table.specs.Table.{State}
use Rattle.block_claim.specs.declared.view.View.{View}
use Rattle.block_claim.specs.declared.view.Extent.{Extent}
use Rattle.block_claim.specs.Ramp.{FollowsRamp, ramp_at_start, claims_by}
use Rattle.block_claim.specs.Legal.{AscendsByFirst, numbers_of, times_claimed, once_below}
use Rattle.block_claim.specs.Views.{times, least_of, unreported, whole_share}

-- a view without a share knows nothing, and what it has seen bounds nothing
pub record IsSpent (v : View) : Type 0 where
  pub workers : v.workers ≡ []
  pub claims : v.claims ≡ []
  pub reports : v.reports ≡ []
  pub seen : v.seen ≡ unreported

-- Shares. The shares are parts of one whole; a view without a share is spent, and the others are of this scan.
pub record SharesAreOneWhole (scan : Extent) (views : List View) : Type 0 where
  pub whole : sum_by (λ v. v.share) views ≡ whole_share
  pub spent : All (λ v. v.share ≡ 0 → IsSpent v) views
  pub same : All (λ v. 0 < v.share → (v.blocks ≡ scan.blocks) × (v.seats ≡ scan.seats)) views

-- Numbers. Each number below the seats stands in exactly one view, once, and no other in any.
abbrev pub EachWorkerHasOneSeat : Extent → List View → Type 0
EachWorkerHasOneSeat scan views =
    (worker : ℕ) → sum_by (λ v. times worker v.workers) views ≡ once_below worker scan.seats

-- Ramp. A view has at most as many claims as its share, and each is of one of its workers, which follow the ramp.
pub record KeepsToTheRamp (scan : Extent) (v : View) : Type 0 where
  pub room : length v.claims ≤ v.share
  pub sizes : All (λ c. (1 ≤ c.size) × (c.size ≤ 8192)) v.claims
  pub workers : All (λ c. Contains v.workers c.worker) v.claims
  pub ramp : (worker : ℕ) → FollowsRamp scan.blocks (ramp_at_start scan.blocks) (claims_by worker v.claims)
  pub ascending : (worker : ℕ) → AscendsByFirst (claims_by worker v.claims)

-- Tiles. `next` is how many numbers all claims have; each number below it lies in exactly one claim, no other in any.
pub record ClaimsTileBelow (next : ℕ) (views : List View) : Type 0 where
  pub sum : next ≡ sum_by (λ v. numbers_of v.claims) views
  pub once : (n : ℕ) → sum_by (λ v. times_claimed n v.claims) views ≡ once_below n next

-- the least of all reports
abbrev pub least_report : List View → ℕ
least_report [] = unreported
least_report (v ∷ vs) = min (least_of v.reports) (least_report vs)

-- Floor. `floor` is the least of all reports, and no seat has seen less.
pub record FloorIsLeast (floor : ℕ) (views : List View) : Type 0 where
  pub least : floor ≡ least_report views
  pub seen : All (λ v. floor ≤ v.seen) views

-- the five parts together
pub record Keeps (scan : Extent) (next floor : ℕ) (views : List View) : Type 0 where
  pub shares : SharesAreOneWhole scan views
  pub numbers : EachWorkerHasOneSeat scan views
  pub ramp : All (KeepsToTheRamp scan) views
  pub tiles : ClaimsTileBelow next views
  pub least : FloorIsLeast floor views

-- the rule over a table of two words, `next` and `floor`
pub record IsKept {S : Type 0} (scan : Extent) (s : State S View) : Type 0 where
  pub words : length s.words ≡ 2
  pub keeps : Keeps scan (slice_index s.words 0) (slice_index s.words 1) s.views
