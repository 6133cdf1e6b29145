-- What the passes of a scan keep: the rows of a page, and those of the blocks that a worker was at.
use Rattle.std.specs.Prelude.{◌≡◌, ◌⊎◌, ◌+◌, ◌*◌, ◌^◌, ◌<◌, ◌≤◌, ⊤, ℕ, Bool, true, false, List, [], ◌∷◌, ◌++◌, length, All, Contains, Option, Some, None}
use Rattle.pg_bytes.specs.Blocks.{block_at, block_count}
use Rattle.opclass.specs.declared.spec.IndexSpec.{IndexSpec}
use Rattle.opclass.specs.declared.table.Table.{Table}
use Rattle.hot_chain.specs.declared.fault.RootFault.{RootFault}
use Rattle.hot_chain.specs.declared.fault.RootFault.TheVariants as chains
use Rattle.hot_chain.specs.Roots.{AreRows, Row}
use Rattle.block_claim.specs.declared.view.View.{View}
use Rattle.block_claim.specs.Calls.{ClaimsAreLegal, IsSeatOf, NoReportIsMissed, ScanState, SeatState}
use Rattle.block_claim.specs.Views.{least_of, unreported}
use Rattle.heap_row.specs.declared.fault.RowFault.TheVariants as fault
use Rattle.shared_tape.specs.declared.stored.Record.{Record}
use Rattle.build_leader.specs.declared.scan.block.BlockError.{BlockError}
use Rattle.build_leader.specs.declared.scan.block.BlockError.TheVariants as error
use Rattle.build_leader.specs.declared.scan.row_slot.RowSlot.{RowSlot}
use Rattle.build_leader.specs.declared.scan.sink.Sink.{Sink}
use Rattle.build_leader.specs.declared.scan.worker.BlockFault.{BlockFault}
use Rattle.build_leader.specs.declared.scan.worker.Share.{Share}
use Rattle.build_leader.specs.Blocks.{IsHeapFile}
use Rattle.build_leader.specs.Claimed.{claimed_blocks}
use Rattle.build_leader.specs.HeapRows.{AreRowsOfBlocks, IsBlockFault, IsSoundBlock}
use Rattle.build_leader.specs.IndexRow.{AreIndexRows, IsIndexRow, IsLeftOut}
use Rattle.build_leader.specs.Holding.{Held, HoldRows, StaysSuited, Suits, TakesInto, held_by}
use Rattle.build_leader.specs.Reader.{IsItemFault, ReaderView}

-- a row of a page went into a sink as the index has it, or WHERE left it out
abbrev pub TakesRow : Table → IndexSpec → List ℕ → ℕ → Row → Sink → Bool → Sink → Type 0
TakesRow table spec page block row old false new = IsLeftOut table spec page row.item × (new ≡ old)
TakesRow table spec page block row old true new =
    (first : Record) × IsIndexRow table spec page block row first × TakesInto spec old (first ∷ []) new

-- what rows of a page are in the index went into a sink, and so many they are
pub record TakesRows (table : Table) (spec : IndexSpec) (page : List ℕ) (block : ℕ) (rows : List Row) (old : Sink)
    (count : ℕ) (new : Sink) : Type 0 where
  pub records : List Record
  pub are : AreIndexRows table spec page block rows records
  pub counted : count ≡ length records
  pub took : TakesInto spec old records new

-- the rows of a page went into a sink
abbrev pub TakesPage : Table → IndexSpec → List ℕ → ℕ → Sink → ℕ → Sink → Type 0
TakesPage table spec page block old count new =
    (rows : List Row) × AreRows page rows × TakesRows table spec page block rows old count new

-- why a row isn't taken: its item's fault, or want of memory
abbrev pub IsRowError : Table → IndexSpec → List ℕ → ℕ → BlockError → Type 0
IsRowError table spec page item (error.Fault number cause) =
    (number ≡ item) × IsItemFault table spec page item (fault.Value cause)
IsRowError table spec page item error.Memory = ⊤

-- why a page isn't taken: its fault, or want of memory
abbrev pub IsPageError : Table → IndexSpec → List ℕ → BlockError → Type 0
IsPageError table spec page (error.Fault item cause) = IsBlockFault table spec page item cause
IsPageError table spec page error.Memory = ⊤

-- the fault of a page's chains, or want of memory
abbrev pub error_of_chains : RootFault → BlockError
error_of_chains (chains.Item item cause) = error.Fault item cause
error_of_chains chains.Memory = error.Memory

-- what a worker knows of a block that it was at: it is sound, or above a report that was seen, or reported
abbrev pub IsJudged : Table → IndexSpec → List ℕ → View → ℕ → Type 0
IsJudged table spec heap view block =
    IsSoundBlock table spec (block_at block heap) ⊎ ((view.seen < block) ⊎ Contains view.reports block)

-- the fault that is kept is that of the least report
abbrev pub KeepsLeast : Table → IndexSpec → List ℕ → List ℕ → Option BlockFault → Type 0
KeepsLeast table spec heap reports None = reports ≡ []
KeepsLeast table spec heap reports (Some fault) =
    (fault.block ≡ least_of reports) × (fault.block < block_count heap)
    × IsBlockFault table spec (block_at fault.block heap) fault.item fault.cause

-- what is held are the rows of these blocks, and so many they are
pub record HasRowsOf (table : Table) (spec : IndexSpec) (heap : List ℕ) (blocks : List ℕ) (held : Held) (count : ℕ)
    : Type 0 where
  pub rows : List Record
  pub are : AreRowsOfBlocks table spec heap blocks rows
  pub hold : HoldRows spec rows held
  pub counted : count ≡ length rows

-- What workers have: what their seat knows, the fault that they kept, and what they hold of the rows that they took and
-- how many these are.
pub record Taken : Type 0 where
  pub view : View
  pub fault : Option BlockFault
  pub held : Held
  pub rows : ℕ

-- It is that of these blocks. As long as no report was seen, it has their rows.
pub record IsTakenOf (reader : ReaderView) (heap : List ℕ) (blocks : List ℕ) (taken : Taken) : Type 0 where
  pub judged : All (IsJudged reader.table reader.spec heap taken.view) blocks
  pub falls : taken.view.seen ≤ least_of taken.view.reports
  pub kept : KeepsLeast reader.table reader.spec heap taken.view.reports taken.fault
  pub rows : unreported ≤ taken.view.seen → HasRowsOf reader.table reader.spec heap blocks taken.held taken.rows

-- what one worker has
abbrev pub taken_by : Share → Taken
taken_by share = record {
  view = share.seat.view;
  fault = share.fault;
  held = held_by share.sink;
  rows = share.rows;
}

-- a worker was at these blocks
abbrev pub HasTaken : ReaderView → List ℕ → List ℕ → Share → Type 0
HasTaken reader heap blocks share = IsTakenOf reader heap blocks (taken_by share)

-- whatever blocks a worker was at before, it was at these too
abbrev pub TakesBlocks : ReaderView → List ℕ → List ℕ → Share → Share → Type 0
TakesBlocks reader heap more old new =
    (before : List ℕ) → HasTaken reader heap before old → HasTaken reader heap (before ++ more) new

-- A worker of a scan, with a sink for the index. Its claims are its own; and if it came to have the whole share, it
-- would know that all claims are legal and that it has seen no less than the least report.
pub record IsWorker (reader : ReaderView) (scan : ScanState) (share : Share) : Type 0 where
  pub of_scan : IsSeatOf scan share.seat
  pub own : All (λ claim. claim.worker ≡ share.seat.worker) share.seat.view.claims
  pub suits : Suits reader.spec share.sink
  pub legal : ClaimsAreLegal share.seat
  pub missed : NoReportIsMissed share.seat

-- a worker that was at the blocks of all of its claims
pub record IsBetweenClaims (reader : ReaderView) (heap : List ℕ) (scan : ScanState) (share : Share) : Type 0 where
  pub worker : IsWorker reader scan share
  pub taken : HasTaken reader heap (claimed_blocks (block_count heap) share.seat.view.claims) share
  pub few : length share.seat.view.claims ≤ scan.blocks + scan.seats
  pub few_rows : share.rows ≤ length share.seat.view.claims * 2 ^ 33

-- the same worker in the same scan, who claims and reads on
pub record IsSameWorker (old new : Share) : Type 0 where
  pub worker : new.seat.worker ≡ old.seat.worker
  pub share : new.seat.view.share ≡ old.seat.view.share
  pub sink : StaysSuited old.sink new.sink

-- a heap and a scan that was opened for its blocks, of a few workers
pub record IsScanOf (heap : List ℕ) (scan : ScanState) : Type 0 where
  pub whole : IsHeapFile heap
  pub blocks : scan.blocks ≡ block_count heap
  pub seats : scan.seats ≤ 32

-- a worker made one claim more
pub record IsOneClaimMore (scan : ScanState) (old new : Share) : Type 0 where
  pub more : length new.seat.view.claims ≡ length old.seat.view.claims + 1
  pub few : length new.seat.view.claims ≤ scan.blocks + scan.seats

-- what a worker begins with
abbrev pub begun_with : SeatState → Sink → RowSlot → Share
begun_with seat sink slot = record {
  seat = seat;
  sink = sink;
  slot = slot;
  rows = 0;
  fault = None;
}
