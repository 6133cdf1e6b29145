-- What a worker has, block by block and claim by claim.
use Rattle.std.proofs.Common.{◌≡◌, ℕ, zero, suc, ◌+◌, ◌-◌, ◌<◌, ◌≤◌, min, List, [], ◌∷◌, ◌++◌, Option, Some, refl, sym, ap, subst, ◌∙◌, inl, inr, arith, All}
use Rattle.std.specs.Prelude.{Contains}
use Rattle.std.specs.List.{range_with_len}
use Rattle.std.proofs.lemmas.List.{append-nil, append_assoc, length-append}
use Rattle.std.proofs.lemmas.List.Elements.{All-push, All-weaker, Contains-append_left, Contains-push}
use Rattle.pg_bytes.specs.Blocks.{block_at, block_count}
use Rattle.opclass.specs.declared.spec.IndexSpec.{IndexSpec}
use Rattle.opclass.specs.declared.table.Table.{Table}
use Rattle.block_claim.specs.declared.claim.Claim.{Claim}
use Rattle.block_claim.specs.declared.view.View.{View}
use Rattle.block_claim.specs.Calls.{ClaimsAreLegal, IsSeatOf, MakesReport, NoReportIsMissed, ScanState, SeatState}
use Rattle.block_claim.specs.Views.{least_of, unreported}
use Rattle.block_claim.proofs.Floors.{least_append, least_top}
use Rattle.shared_tape.specs.declared.stored.Record.{Record}
use Rattle.build_leader.specs.declared.scan.row_slot.RowSlot.{RowSlot}
use Rattle.build_leader.specs.declared.scan.sink.Sink.{Sink}
use Rattle.build_leader.specs.declared.scan.worker.BlockFault.{BlockFault}
use Rattle.build_leader.specs.declared.scan.worker.Share.{Share}
use Rattle.build_leader.specs.HeapRows.{AreBlockRows, AreRowsOfBlocks, IsBlockFault, IsSoundBlock}
use Rattle.build_leader.specs.Holding.{StaysSuited, held_by}
use Rattle.build_leader.specs.Reader.{ReaderView}
use Rattle.build_leader.proofs.SharedRows.{rows_append}
use Rattle.build_leader.proofs.HeldRows.{stays_both, stays_suited}
use Rattle.build_leader.specs.Scanning.{HasRowsOf, HasTaken, IsJudged, IsSameWorker, IsWorker, KeepsLeast, TakesBlocks, TakesPage}

-- ---- rows of blocks

module _ (table : Table) (spec : IndexSpec) (heap : List ℕ) where
  one_block : (block : ℕ) (rows : List Record) → AreBlockRows table spec heap block rows → AreRowsOfBlocks table spec heap (block ∷ []) rows
  one_block block rows are = (rows, ([], sym (append-nil rows), are, refl))

  -- the rows of one block more
  rows_more : (blocks : List ℕ) (block : ℕ) (old new : Sink) (before count : ℕ) → HasRowsOf table spec heap blocks (held_by old) before
      → TakesPage table spec (block_at block heap) block old count new
      → HasRowsOf table spec heap (blocks ++ block ∷ []) (held_by new) (before + count)
  rows_more blocks block old new before count has takes =
      let taken = takes.2 in
      let both = length-append has.rows taken.records in
      let first = has.counted in
      let second = taken.counted in
      record {
        rows = has.rows ++ taken.records;
        are = rows_append table spec heap blocks (block ∷ []) has.rows taken.records has.are (one_block block taken.records (takes.0, takes.1, taken.are));
        hold = taken.took has.rows has.hold;
        counted = omega arith;
      }

-- ---- what a worker knows of its blocks

module _ (table : Table) (spec : IndexSpec) (heap : List ℕ) where
  -- it still knows it once it has seen a lesser report, or reported more
  pub judged_still : (old new : View) (blocks : List ℕ) → new.seen ≤ old.seen → (more : List ℕ) → new.reports ≡ old.reports ++ more
      → All (IsJudged table spec heap old) blocks → All (IsJudged table spec heap new) blocks
  judged_still old new blocks falls more reports all =
      All-weaker (IsJudged table spec heap old) (IsJudged table spec heap new) still blocks all
    where
      still : (block : ℕ) → IsJudged table spec heap old block → IsJudged table spec heap new block
      still block (inl sound) = inl sound
      still block (inr (inl above)) = inr (inl (omega arith))
      still block (inr (inr told)) =
          inr (inr (subst (λ (all : List ℕ). Contains all block) (sym reports) (Contains-append_left old.reports more block told)))

-- the same worker still
pub same_both : (a b c : Share) → IsSameWorker a b → IsSameWorker b c → IsSameWorker a c
same_both a b c first second = record {
  worker = second.worker ∙ first.worker;
  share = second.share ∙ first.share;
  sink = stays_both a.sink b.sink c.sink first.sink second.sink;
}

module _ (reader : ReaderView) (heap : List ℕ) where
  abbrev At : Share → ℕ → Type 0
  At share block = IsJudged reader.table reader.spec heap share.seat.view block

  -- a block above what the worker has seen is passed over
  pub passed_over : (share : Share) (block : ℕ) → block < unreported → share.seat.view.seen < block
      → TakesBlocks reader heap (block ∷ []) share share
  passed_over share block small above before has = record {
    judged = All-push (At share) before block has.judged (inr (inl above));
    falls = has.falls;
    kept = has.kept;
    rows = λ none. absurd (omega arith);
  }

  -- a sound block is taken
  pub was_taken : (share : Share) (sink : Sink) (slot : RowSlot) (block rows count : ℕ)
      → IsSoundBlock reader.table reader.spec (block_at block heap)
      → TakesPage reader.table reader.spec (block_at block heap) block share.sink count sink → rows ≡ share.rows + count
      → TakesBlocks reader heap (block ∷ []) share (record share { sink = sink; slot = slot; rows = rows })
  was_taken share sink slot block rows count sound takes sum before has = record {
    judged = All-push (At share) before block has.judged (inl sound);
    falls = has.falls;
    kept = has.kept;
    rows = λ none.
        subst (λ (n : ℕ). HasRowsOf reader.table reader.spec heap (before ++ block ∷ []) (held_by sink) n) (sym sum)
        (rows_more reader.table reader.spec heap before block share.sink sink share.rows count (has.rows none) takes);
  }

  -- a block with a fault is reported, and its fault is kept
  pub was_reported : (old new : Share) (block item cause floor : ℕ) → block < block_count heap → block < unreported
      → block ≤ old.seat.view.seen → floor ≤ old.seat.view.seen
      → IsBlockFault reader.table reader.spec (block_at block heap) item cause
      → new.seat.view.reports ≡ old.seat.view.reports ++ block ∷ [] → new.seat.view.seen ≡ min floor block
      → new.fault ≡ Some (record { block = block; item = item; cause = cause })
      → TakesBlocks reader heap (block ∷ []) old new
  was_reported old new block item cause floor inside small seen falls fault reports sees kept before has =
      let least = least_append old.seat.view.reports (block ∷ []) in
      let top = least_top (block ∷ []) in
      let report : least_of new.seat.view.reports ≡ block =
      ap least_of reports ∙ least ∙ (let before_falls = has.falls in let one : least_of (block ∷ []) ≡ block = omega arith in omega arith) in
      record {
        judged = All-push (At new) before block
            (judged_still reader.table reader.spec heap old.seat.view new.seat.view before (omega arith) (block ∷ []) reports has.judged)
            (inr (inr (subst (λ (all : List ℕ). Contains all block) (sym reports) (Contains-push old.seat.view.reports block))));
        falls = omega arith;
        kept = subst (λ (f : Option BlockFault). KeepsLeast reader.table reader.spec heap new.seat.view.reports f) (sym kept)
            (sym report, inside, fault);
        rows = λ none. absurd (omega arith);
      }

  -- ---- the worker

  -- it took rows
  pub worker_took : (scan : ScanState) (share : Share) (sink : Sink) (slot : RowSlot) (rows : ℕ) → IsWorker reader scan share
      → StaysSuited share.sink sink → IsWorker reader scan (record share { sink = sink; slot = slot; rows = rows })
  worker_took scan share sink slot rows worker stays = record {
    of_scan = worker.of_scan;
    own = worker.own;
    suits = stays_suited reader.spec share.sink sink stays worker.suits;
    legal = worker.legal;
    missed = worker.missed;
  }

  -- or reported a block
  pub worker_reported : (scan : ScanState) (share : Share) (seat : SeatState) (sink : Sink) (slot : RowSlot) (fault : Option BlockFault) (block : ℕ)
      → IsWorker reader scan share → StaysSuited share.sink sink → MakesReport share.seat block seat → ClaimsAreLegal seat
      → NoReportIsMissed seat
      → IsWorker reader scan (record { seat = seat; sink = sink; slot = slot; rows = share.rows; fault = fault })
  worker_reported scan share seat sink slot fault block worker stays reports legal missed =
      let is = reports.2 in
      record {
        of_scan =
            subst (IsSeatOf scan) (sym is)
            (record { table = worker.of_scan.table; blocks = worker.of_scan.blocks; seats = worker.of_scan.seats });
        own = subst (λ (s : SeatState). All (λ (c : Claim). c.worker ≡ s.worker) s.view.claims) (sym is) worker.own;
        suits = stays_suited reader.spec share.sink sink stays worker.suits;
        legal = legal;
        missed = missed;
      }

  -- ---- several blocks

  pub takes_nothing : (share : Share) → TakesBlocks reader heap [] share share
  takes_nothing share before has =
      subst (λ (blocks : List ℕ). HasTaken reader heap blocks share) (sym (append-nil before)) has

  takes_both : (a b : List ℕ) (old mid new : Share) → TakesBlocks reader heap a old mid → TakesBlocks reader heap b mid new
      → TakesBlocks reader heap (a ++ b) old new
  takes_both a b old mid new first second before has =
      subst (λ (blocks : List ℕ). HasTaken reader heap blocks new) (append_assoc before a b) (second (before ++ a) (first before has))

  range_push : (first count : ℕ) → range_with_len first (suc count) ≡ range_with_len first count ++ (first + count) ∷ []
  range_push first zero = let e : first + 0 ≡ first = omega arith in ap (λ (n : ℕ). n ∷ []) (sym e)
  range_push first (suc count) =
      let e : (first + 1) + count ≡ first + suc count = omega arith in
      ap (λ (ns : List ℕ). first ∷ ns) (range_push (first + 1) count ∙ ap (λ (n : ℕ). range_with_len (first + 1) count ++ n ∷ []) e)

  pub takes_more : (first block : ℕ) (old mid new : Share) → first ≤ block
      → TakesBlocks reader heap (range_with_len first (block - first)) old mid → TakesBlocks reader heap (block ∷ []) mid new
      → TakesBlocks reader heap (range_with_len first (block + 1 - first)) old new
  takes_more first block old mid new from before step =
      let count : block + 1 - first ≡ suc (block - first) = omega arith in
      let last : first + (block - first) ≡ block = omega arith in
      let all : range_with_len first (block - first) ++ block ∷ [] ≡ range_with_len first (block + 1 - first) =
      sym (ap (range_with_len first) count ∙ range_push first (block - first) ∙ ap (λ (n : ℕ). range_with_len first (block - first) ++ n ∷ []) last) in
      subst (λ (blocks : List ℕ). TakesBlocks reader heap blocks old new) all
      (takes_both (range_with_len first (block - first)) (block ∷ []) old mid new before step)
