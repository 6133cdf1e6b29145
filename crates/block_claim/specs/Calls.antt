-- What the calls are told and leave: a scan, and a seat of it.
use Rattle.std.specs.Prelude.{◌≡◌, ℕ, ◌≤◌, Bool, true, ltb, if◌then◌else◌, Option, Some, None, List, [], ◌∷◌, length, slice_get}
use Rattle.std.specs.List.{sum_by}
use Rattle.atomic_table.specs.Seated.{TableId}
use Rattle.block_claim.specs.declared.claim.Claim.{Claim}
use Rattle.block_claim.specs.declared.view.View.{View}
use Rattle.block_claim.specs.Ramp.{Ramp, ramp_of, claims_by, claim_at}
use Rattle.block_claim.specs.Legal.{IsLegalInSomeOrder}
use Rattle.block_claim.specs.Views.{whole_share, unreported, least_of, with_claim, with_report}

-- a scan: which table it is, and for how many blocks and seats it was opened
pub record ScanState : Type 0 where
  pub table : TableId
  pub blocks : ℕ
  pub seats : ℕ

-- a seat: the table of its scan, its number, and its view
pub record SeatState : Type 0 where
  pub table : TableId
  pub worker : ℕ
  pub view : View

-- the seat is this scan's
pub record IsSeatOf (scan : ScanState) (seat : SeatState) : Type 0 where
  pub table : seat.table ≡ scan.table
  pub blocks : seat.view.blocks ≡ scan.blocks
  pub seats : seat.view.seats ≡ scan.seats

-- where the seat's own worker stands on the ramp
abbrev pub ramp_of_seat : SeatState → Ramp
ramp_of_seat seat = ramp_of seat.view.blocks (claims_by seat.worker seat.view.claims)

abbrev pub is_done : SeatState → Bool
is_done seat = (ramp_of_seat seat).done

-- all other seats were joined into it
abbrev pub HasWholeShare : SeatState → Type 0
HasWholeShare seat = seat.view.share ≡ whole_share

-- the seat with another view
abbrev pub with_view : SeatState → View → SeatState
with_view seat v = record { table = seat.table; worker = seat.worker; view = v }

-- one event: the seat's worker claims its next chunk from a number on, and is answered that claim where it has a block
abbrev pub MakesClaim : SeatState → Option Claim → SeatState → Type 0
MakesClaim old answer new = (first : ℕ)
    × (new ≡ with_view old (with_claim old.view (claim_at old.view.blocks old.worker old.view.claims first)))
    × (answer ≡ (if ltb first old.view.blocks
    then Some (claim_at old.view.blocks old.worker old.view.claims first)
    else None))

-- the seat reported the block, and has seen the floor with it, which is no more than what it had seen
abbrev pub MakesReport : SeatState → ℕ → SeatState → Type 0
MakesReport old block new =
    (floor : ℕ) × (floor ≤ old.view.seen) × (new ≡ with_view old (with_report old.view block floor))

-- a seat that is done and has the whole share knows that its claims are legal but for the order of the workers
abbrev pub ClaimsAreLegal : SeatState → Type 0
ClaimsAreLegal seat =
    HasWholeShare seat → is_done seat ≡ true → IsLegalInSomeOrder seat.view.blocks seat.view.seats seat.view.claims

-- a seat with the whole share has seen no less than the least of its reports
abbrev pub NoReportIsMissed : SeatState → Type 0
NoReportIsMissed seat = HasWholeShare seat → least_of seat.view.reports ≤ seat.view.seen

-- a seat as it is opened: one worker, with nothing claimed or reported
pub record IsFresh (scan : ScanState) (worker : ℕ) (seat : SeatState) : Type 0 where
  pub of_scan : IsSeatOf scan seat
  pub number : seat.worker ≡ worker
  pub alone : seat.view.workers ≡ worker ∷ []
  pub claims : seat.view.claims ≡ []
  pub reports : seat.view.reports ≡ []
  pub seen : seat.view.seen ≡ unreported

-- the seats of a scan in the order of their numbers, with the whole share among them
pub record AreOpened (scan : ScanState) (seats : List SeatState) : Type 0 where
  pub count : length seats ≡ scan.seats
  pub each : (worker : ℕ) (seat : SeatState) → slice_get seats worker ≡ Some seat → IsFresh scan worker seat
  pub share : sum_by (λ seat. seat.view.share) seats ≡ whole_share
