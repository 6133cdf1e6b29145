-- What workers have together at the end of a scan (_bt_begin_parallel and _bt_parallel_heapscan of nbtsort.c: each
-- leaves one tape, and the leader's is the first).
use Rattle.std.specs.Prelude.{◌≡◌, ℕ, nat_lt, ◌+◌, ◌*◌, ◌^◌, ◌<◌, ◌≤◌, true, if◌then◌else◌, List, [], ◌∷◌, ◌++◌, length, All, Option, Some, None, slice_get}
use Rattle.std.specs.List.{sum_by}
use Rattle.std.specs.List.Sorted.{IsPermutation}
use Rattle.pg_bytes.specs.Blocks.{block_count}
use Rattle.opclass.specs.declared.spec.IndexSpec.{IndexSpec}
use Rattle.block_claim.specs.declared.claim.Claim.{Claim}
use Rattle.block_claim.specs.Calls.{ClaimsAreLegal, IsFresh, IsSeatOf, NoReportIsMissed, ScanState, SeatState, is_done, with_view}
use Rattle.block_claim.specs.Legal.{StandsWorkerByWorker}
use Rattle.block_claim.specs.Views.{joined, unreported}
use Rattle.shared_tape.specs.Runs.{RunView, records_of}
use Rattle.spool.specs.Spools.{AreBoundedRuns}
use Rattle.build_leader.specs.declared.fault.LeadFault.{LeadFault}
use Rattle.build_leader.specs.declared.fault.LeadFault.TheVariants as lead
use Rattle.build_leader.specs.declared.plan.Plan.{Plan}
use Rattle.build_leader.specs.declared.scan.scanned.Scanned.{Scanned}
use Rattle.build_leader.specs.declared.scan.team.Team.{Team}
use Rattle.build_leader.specs.declared.scan.worker.BlockFault.{BlockFault}
use Rattle.build_leader.specs.declared.scan.worker.Share.{Share}
use Rattle.build_leader.specs.Calls.{ArePartsFrom}
use Rattle.build_leader.specs.Claimed.{claimed_blocks}
use Rattle.build_leader.specs.Holding.{IsSinkOf, held_by, held_on, order_by}
use Rattle.build_leader.specs.Reader.{ReaderView}
use Rattle.build_leader.specs.Scanning.{IsTakenOf, Taken}

-- the seats of workers numbered from 0, with nothing claimed or reported
abbrev pub AreFreshSeats : ScanState → List SeatState → Type 0
AreFreshSeats scan seats = (worker : ℕ) (seat : SeatState) → slice_get seats worker ≡ Some seat → IsFresh scan worker seat

-- the part of the whole scan that several seats have
abbrev pub share_of_seats : List SeatState → ℕ
share_of_seats seats = sum_by (λ seat. seat.view.share) seats

-- the reader of a plan's rows
abbrev pub reader_of : Plan → ReaderView
reader_of plan = record { table = plan.table; spec = plan.spec }

-- the fault of the lesser block
abbrev pub lesser_fault : Option BlockFault → Option BlockFault → Option BlockFault
lesser_fault (Some a) (Some b) = if nat_lt b.block a.block then Some b else Some a
lesser_fault (Some a) None = Some a
lesser_fault None other = other

-- what workers have together
abbrev pub taken_by_team : Team → Taken
taken_by_team team = record {
  view = team.seat.view;
  fault = team.fault;
  held = held_on team.tapes team.ranges;
  rows = team.rows;
}

-- claims are those of workers numbered from one on, and so many
abbrev pub AreClaimsOfWorkers : ℕ → ℕ → List Claim → Type 0
AreClaimsOfWorkers first count claims = All (λ claim. (first ≤ claim.worker) × (claim.worker < first + count)) claims

-- Workers numbered from one on, and so many, at the end of their claims. As long as they have seen no report, the tape
-- and the ranges of each hold the rows that it claimed.
pub record IsTeam (plan : Plan) (heap : List ℕ) (scan : ScanState) (first count : ℕ) (team : Team) : Type 0 where
  pub of_scan : IsSeatOf scan team.seat
  pub done : is_done team.seat ≡ true
  pub legal : ClaimsAreLegal team.seat
  pub missed : NoReportIsMissed team.seat
  pub own : AreClaimsOfWorkers first count team.seat.view.claims
  pub in_order : StandsWorkerByWorker team.seat.view.claims
  pub taken : IsTakenOf (reader_of plan) heap (claimed_blocks (block_count heap) team.seat.view.claims) (taken_by_team team)
  pub tapes : length team.tapes ≡ count
  pub ranges : length team.ranges ≡ count
  pub each : unreported ≤ team.seat.view.seen
      → ArePartsFrom plan heap team.seat.view.claims first team.tapes team.ranges
  pub few : team.rows ≤ count * 2 ^ 52

-- two teams as one: the seats joined, the tapes and ranges of the second behind those of the first, and the lesser fault
abbrev pub joined_team : Team → Team → Team
joined_team a b = record {
  seat = with_view a.seat (joined a.seat.view b.seat.view);
  tapes = a.tapes ++ b.tapes;
  ranges = a.ranges ++ b.ranges;
  rows = a.rows + b.rows;
  fault = lesser_fault a.fault b.fault;
}

-- one worker became a team: what it held is on a tape and in ranges
pub record IsAlone (share : Share) (team : Team) : Type 0 where
  pub seat : team.seat ≡ share.seat
  pub rows : team.rows ≡ share.rows
  pub fault : team.fault ≡ share.fault
  pub tape : List RunView
  pub tapes : team.tapes ≡ tape ∷ []
  pub same : IsPermutation (held_by share.sink).records (records_of tape)
  pub ranges : team.ranges ≡ (held_by share.sink).ranges ∷ []
  pub runs : (spec : IndexSpec) (run_rows : ℕ) → IsSinkOf spec run_rows share.sink
      → AreBoundedRuns (order_by spec.method spec) run_rows tape

-- a team without a fault handed over what it has
pub record HandsOver (team : Team) (scanned : Scanned) : Type 0 where
  pub sound : team.fault ≡ None
  pub is : scanned ≡ record { tapes = team.tapes; ranges = team.ranges; seat = team.seat; rows = team.rows }

-- why it didn't: the fault that it kept
abbrev pub TellsFault : Team → LeadFault → Type 0
TellsFault team (lead.Row block item cause) =
    team.fault ≡ Some (record { block = block; item = item; cause = cause })
TellsFault team (lead.Duplicate first second) = ⊥
TellsFault team (lead.RangeWide range size) = ⊥
TellsFault team lead.Memory = ⊥
