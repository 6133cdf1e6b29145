-- What the calls ask and answer.
use Rattle.std.specs.Prelude.{◌≡◌, ◌≤◌, ◌+◌, ⊤, ℕ, List, length, true, Some, slice_get}
use Rattle.pg_bytes.specs.Blocks.{block_count}
use Rattle.opclass.specs.Indexes.{IsIndexOver, IsTable}
use Rattle.brin_summary.specs.declared.file.BrinFault.{BrinFault}
use Rattle.brin_summary.specs.declared.file.BrinFault.TheVariants as brin
use Rattle.block_claim.specs.declared.claim.Claim.{Claim}
use Rattle.block_claim.specs.Calls.{AreOpened, HasWholeShare, IsSeatOf, ScanState, SeatState, is_done}
use Rattle.block_claim.specs.Legal.{IsLegal}
use Rattle.shared_tape.specs.declared.stored.Record.{Record}
use Rattle.shared_tape.specs.Runs.{RunView, records_of}
use Rattle.spool.specs.Spools.{AreBoundedRuns}
use Rattle.build_leader.specs.declared.built.Built.{Built}
use Rattle.build_leader.specs.declared.fault.LeadFault.{LeadFault}
use Rattle.build_leader.specs.declared.fault.LeadFault.TheVariants as lead
use Rattle.build_leader.specs.declared.plan.Plan.{Plan}
use Rattle.brin_summary.specs.declared.ranges.SummedRange.{SummedRange}
use Rattle.build_leader.specs.declared.scan.scanned.Scanned.{Scanned}
use Rattle.build_leader.specs.Blocks.{IsHeapFile}
use Rattle.build_leader.specs.Claimed.{AreClaimedRows}
use Rattle.build_leader.specs.HeapRows.{AreHeapRows, HasSoundBlocks}
use Rattle.build_leader.specs.Holding.{HoldRows, order_by}
use Rattle.build_leader.specs.Outcome.{Faulty, Duplicate, Indexed, RangeWide, HasBuildOutcome, IsIndexFile, pairs_by}

-- a plan: an index over a table, by at most 31 workers beside the leader
pub record IsPlan (plan : Plan) : Type 0 where
  pub table : IsTable plan.table
  pub index : IsIndexOver plan.table plan.spec
  pub workers : plan.workers ≤ 31
  pub run_rows : 1 ≤ plan.run_rows

-- a scan that was opened for the blocks of a heap and the workers of a plan, with all its seats
pub record IsOpenedFor (plan : Plan) (heap : List ℕ) (scan : ScanState) (seats : List SeatState) : Type 0 where
  pub whole : IsHeapFile heap
  pub blocks : scan.blocks ≡ block_count heap
  pub workers : scan.seats ≡ plan.workers + 1
  pub opened : AreOpened scan seats

-- a seat at the end of its scan: it is done, all others were joined into it, and its claims are those of the scan
pub record IsFinished (scan : ScanState) (seat : SeatState) : Type 0 where
  pub of_scan : IsSeatOf scan seat
  pub done : is_done seat ≡ true
  pub whole : HasWholeShare seat
  pub legal : IsLegal scan.blocks scan.seats seat.view.claims

-- a tape and ranges hold the rows that a worker claimed, and the tape stands in sorted runs of at most so many records
pub record IsPartOf (plan : Plan) (heap : List ℕ) (claims : List Claim) (worker : ℕ) (tape : List RunView)
    (ranges : List SummedRange) : Type 0 where
  pub rows : List Record
  pub claimed : AreClaimedRows plan.table plan.spec heap claims worker rows
  pub held : HoldRows plan.spec rows (record { records = records_of tape; ranges = ranges })
  pub runs : AreBoundedRuns (order_by plan.spec.method plan.spec) plan.run_rows tape

-- tapes and ranges of workers numbered from one on: each has the rows that its worker claimed
abbrev pub ArePartsFrom : Plan → List ℕ → List Claim → ℕ → List (List RunView) → List (List SummedRange) → Type 0
ArePartsFrom plan heap claims first tapes parts =
    (place : ℕ) (tape : List RunView) (ranges : List SummedRange) → slice_get tapes place ≡ Some tape
    → slice_get parts place ≡ Some ranges → IsPartOf plan heap claims (first + place) tape ranges

-- a count is that of the rows of an index over a heap
abbrev pub CountsRows : Plan → List ℕ → ℕ → Type 0
CountsRows plan heap count =
    (rows : List Record) × AreHeapRows plan.table plan.spec heap rows × (count ≡ length rows)

-- the heap was scanned: each worker's tape and ranges hold the rows that it claimed
pub record IsScanned (plan : Plan) (heap : List ℕ) (scan : ScanState) (scanned : Scanned) : Type 0 where
  pub seat : IsFinished scan scanned.seat
  pub sound : HasSoundBlocks plan.table plan.spec heap
  pub tapes : length scanned.tapes ≡ plan.workers + 1
  pub ranges : length scanned.ranges ≡ plan.workers + 1
  pub each : ArePartsFrom plan heap scanned.seat.view.claims 0 scanned.tapes scanned.ranges
  pub rows : CountsRows plan heap scanned.rows

-- why it wasn't: its first fault, or want of memory
abbrev pub IsScanFault : Plan → List ℕ → LeadFault → Type 0
IsScanFault plan heap (lead.Row block item cause) =
    HasBuildOutcome plan.table plan.spec heap (Faulty block item cause)
IsScanFault plan heap (lead.Duplicate first second) = ⊥
IsScanFault plan heap (lead.RangeWide range size) = ⊥
IsScanFault plan heap lead.Memory = ⊤

-- the index was built: a file of its rows, with so many rows and pairs
pub record IsBuilt (plan : Plan) (heap : List ℕ) (scan : ScanState) (built : Built) : Type 0 where
  pub seat : IsFinished scan built.seat
  pub taken : List Record
  pub outcome : HasBuildOutcome plan.table plan.spec heap (Indexed taken)
  pub image : IsIndexFile plan.table plan.spec (block_count heap) taken built.image
  pub rows : built.rows ≡ length taken
  pub pairs : built.pairs ≡ pairs_by plan.spec.method plan.spec (block_count heap) taken

-- why it wasn't: what the heap comes to in place of it, or want of memory
abbrev pub IsLeadFault : Plan → List ℕ → LeadFault → Type 0
IsLeadFault plan heap (lead.Row block item cause) =
    HasBuildOutcome plan.table plan.spec heap (Faulty block item cause)
IsLeadFault plan heap (lead.Duplicate first second) =
    HasBuildOutcome plan.table plan.spec heap (Duplicate first second)
IsLeadFault plan heap (lead.RangeWide range size) =
    HasBuildOutcome plan.table plan.spec heap (RangeWide range size)
IsLeadFault plan heap lead.Memory = ⊤

-- the fault of ranges that aren't packed
abbrev pub fault_of_ranges : BrinFault → LeadFault
fault_of_ranges (brin.RangeWide range size) = lead.RangeWide range size
fault_of_ranges brin.Memory = lead.Memory
