-- What the seats of a scan know, each in its view, and what a step makes of a view.
use Rattle.std.specs.Prelude.{◌≡◌, ℕ, ◌+◌, ◌-◌, ◌^◌, ◌≤◌, true, eqb, min, List, [], ◌∷◌, ◌++◌}
use Rattle.std.specs.List.{All, count_by, range_with_len}
use Rattle.block_claim.specs.declared.claim.Claim.{Claim}
use Rattle.block_claim.specs.declared.view.View.{View}
use Rattle.block_claim.specs.declared.view.Extent.{Extent}
use Rattle.block_claim.specs.Ramp.{ramp_of, claims_by}
use Rattle.block_claim.specs.Legal.{IsLegalInSomeOrder}

-- how often a number stands in a list
abbrev pub times : ℕ → List ℕ → ℕ
times n xs = count_by (λ x. eqb x n) xs

-- the first of the numbers, and the others
abbrev pub first_worker : List ℕ → ℕ
first_worker [] = 0
first_worker (w ∷ ws) = w

abbrev pub other_workers : List ℕ → List ℕ
other_workers [] = []
other_workers (w ∷ ws) = ws

-- what stands for the least report where there is none: the greatest number of a word
abbrev pub unreported : ℕ
unreported = 18446744073709551615

-- the least of the reported blocks
abbrev pub least_of : List ℕ → ℕ
least_of [] = unreported
least_of (block ∷ blocks) = min block (least_of blocks)

-- the share of a seat that has all others' shares, and the one that a split hands out
abbrev pub whole_share : ℕ
whole_share = 2 ^ 40

abbrev pub seat_share : ℕ
seat_share = 2 ^ 35

-- the first view: all numbers and the whole share
abbrev pub view_at_start : Extent → View
view_at_start scan = record {
  blocks = scan.blocks;
  seats = scan.seats;
  workers = range_with_len 0 scan.seats;
  share = whole_share;
  claims = [];
  reports = [];
  seen = unreported;
}

-- a split hands out the first number and a seat's share, and leaves the others and the rest
abbrev pub handed_out : View → View
handed_out v = record v { workers = first_worker v.workers ∷ []; share = seat_share }

abbrev pub left_over : View → View
left_over v = record v { workers = other_workers v.workers; share = v.share - seat_share }

-- a claim stands behind the others
abbrev pub with_claim : View → Claim → View
with_claim v c = record v { claims = v.claims ++ c ∷ [] }

-- a seat takes another's numbers, share, claims and reports, and the lesser of what the two have seen
abbrev pub joined : View → View → View
joined v w = record v {
  workers = v.workers ++ w.workers;
  share = v.share + w.share;
  claims = v.claims ++ w.claims;
  reports = v.reports ++ w.reports;
  seen = min v.seen w.seen;
}

-- what a join leaves of the other seat
abbrev pub spent : View
spent = record { blocks = 0; seats = 0; workers = []; share = 0; claims = []; reports = []; seen = unreported }

-- a report stands behind the others, and the seat has seen the lesser of it and the floor that it met
abbrev pub with_report : View → ℕ → ℕ → View
with_report v block floor = record v { reports = v.reports ++ block ∷ []; seen = min floor block }

abbrev pub with_seen : View → ℕ → View
with_seen v floor = record v { seen = floor }

-- each worker of the view has made the claim that makes it done
abbrev pub AllDone : View → Type 0
AllDone v = All (λ worker. (ramp_of v.blocks (claims_by worker v.claims)).done ≡ true) v.workers

-- what a seat with the whole share knows of the whole scan: no report is below what it has seen, and where its workers are
-- done, its claims are legal
pub record KnowsTheScan (v : View) : Type 0 where
  pub seen : v.share ≡ whole_share → least_of v.reports ≤ v.seen
  pub legal : v.share ≡ whole_share → AllDone v → IsLegalInSomeOrder v.blocks v.seats v.claims

-- the view of one worker with nothing claimed or reported
pub record IsFreshView (worker blocks : ℕ) (v : View) : Type 0 where
  pub blocks_are : v.blocks ≡ blocks
  pub blocks_limit : blocks ≤ 2 ^ 20
  pub seats : v.seats ≤ 32
  pub workers : v.workers ≡ worker ∷ []
  pub share : seat_share ≤ v.share
  pub claims : v.claims ≡ []
  pub reports : v.reports ≡ []
  pub seen : v.seen ≡ unreported
