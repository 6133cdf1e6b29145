-- What a scan left with the workers are the rows of the heap.
use Rattle.std.proofs.Common.{◌≡◌, ℕ, suc, ◌+◌, List, [], ◌∷◌, ◌++◌, length, refl, sym, subst, ◌∙◌, arith, get_or, All}
use Rattle.std.specs.List.{range_with_len}
use Rattle.std.proofs.lemmas.List.Elements.{All-append, All-head, All-nil, All-tail, All-weaker}
use Rattle.std.proofs.lemmas.List.Sorted.{IsPermutation-sym}
use Rattle.std.proofs.lemmas.Option.{slice_get-get_or}
use Rattle.pg_bytes.specs.Blocks.{block_count}
use Rattle.block_claim.specs.declared.claim.Claim.{Claim}
use Rattle.block_claim.specs.Calls.{ScanState, SeatState}
use Rattle.block_claim.specs.Legal.{IsLegal}
use Rattle.opclass.specs.declared.spec.SortPart.{SortPart}
use Rattle.shared_tape.specs.declared.stored.Record.{Record}
use Rattle.shared_tape.specs.Runs.{RunView, records_of}
use Rattle.shared_tape.specs.Stored.{IsStorable}
use Rattle.spool.specs.Spools.{AreBoundedRuns, IsBoundedRun}
use Rattle.run_merge.specs.Sorted.{AllHaveOrder, all_records}
use Rattle.build_leader.specs.declared.plan.Plan.{Plan}
use Rattle.brin_summary.specs.declared.ranges.SummedRange.{SummedRange}
use Rattle.build_leader.specs.declared.scan.scanned.Scanned.{Scanned}
use Rattle.build_leader.specs.declared.taken.Packed.{Packed}
use Rattle.build_leader.specs.Calls.{ArePartsFrom, IsBuilt, IsOpenedFor, IsPartOf, IsScanned}
use Rattle.build_leader.specs.Holding.{HoldRows, held_on, order_by}
use Rattle.build_leader.specs.Laws.{AreRowsOfWorkers, ClaimsShareTheRows}
use Rattle.build_leader.specs.Packing.{HaveHeapRows, IsPackedOf}
use Rattle.build_leader.proofs.HeldRows.{hold_none, hold_permuted, hold_together}

module _ (plan : Plan) (heap : List ℕ) (claims : List Claim) where
  abbrev order : List SortPart
  order = order_by plan.spec.method plan.spec

  behind : (first : ℕ) (tape : List RunView) (tapes : List (List RunView)) (part : List SummedRange) (parts : List (List SummedRange))
      → ArePartsFrom plan heap claims first (tape ∷ tapes) (part ∷ parts) → ArePartsFrom plan heap claims (first + 1) tapes parts
  behind first tape tapes part parts each place other others at beside =
      subst (λ (worker : ℕ). IsPartOf plan heap claims worker other others)
      (let e : first + suc place ≡ (first + 1) + place = omega arith in e)
      (each (suc place) other others at beside)

  of_first : (first : ℕ) (tape : List RunView) (tapes : List (List RunView)) (part : List SummedRange) (parts : List (List SummedRange))
      → ArePartsFrom plan heap claims first (tape ∷ tapes) (part ∷ parts) → IsPartOf plan heap claims first tape part
  of_first first tape tapes part parts each =
      subst (λ (worker : ℕ). IsPartOf plan heap claims worker tape part) (let e : first + 0 ≡ first = omega arith in e)
      (each 0 tape part refl refl)

  -- what the workers have, worker by worker, and all together
  record IsShared (first : ℕ) (tapes : List (List RunView)) (parts : List (List SummedRange)) : Type 0 where
    pub rows : List Record
    pub of_workers : AreRowsOfWorkers plan.table plan.spec heap claims (range_with_len first (length tapes)) rows
    pub hold : HoldRows plan.spec rows (held_on tapes parts)

  shared : (first : ℕ) (tapes : List (List RunView)) (parts : List (List SummedRange)) → length tapes ≡ length parts
      → ArePartsFrom plan heap claims first tapes parts → IsShared first tapes parts
  shared first [] [] count each = record { rows = []; of_workers = refl; hold = hold_none plan.spec }
  shared first [] (part ∷ parts) count each = absurd (omega (arith, count))
  shared first (tape ∷ tapes) [] count each = absurd (omega (arith, count))
  shared first (tape ∷ tapes) (part ∷ parts) count each =
      let here = of_first first tape tapes part parts each in
      let rest = shared (first + 1) tapes parts (omega (arith, count)) (behind first tape tapes part parts each) in record {
        rows = here.rows ++ rest.rows;
        of_workers = (here.rows, (rest.rows, refl, here.claimed, rest.of_workers));
        hold =
            hold_together plan.spec here.rows rest.rows (record { records = records_of tape; ranges = part }) (held_on tapes parts)
            here.held rest.hold;
      }

  -- each record on the tapes can be stored
  of_run : (run : RunView) → IsBoundedRun order plan.run_rows run → All (IsStorable order) run.records
  of_run run bounded =
      subst (λ (parts : List SortPart). All (IsStorable parts) run.records) bounded.same_order bounded.sorted.storable

  of_runs : (runs : List RunView) → AreBoundedRuns order plan.run_rows runs → All (IsStorable order) (records_of runs)
  of_runs [] bounded = All-nil (IsStorable order)
  of_runs (run ∷ runs) bounded =
      All-append (IsStorable order) run.records (records_of runs)
      (of_run run (All-head (IsBoundedRun order plan.run_rows) run runs bounded))
      (of_runs runs (All-tail (IsBoundedRun order plan.run_rows) run runs bounded))

  are_storable : (first : ℕ) (tapes : List (List RunView)) (parts : List (List SummedRange)) → length tapes ≡ length parts
      → ArePartsFrom plan heap claims first tapes parts → All (IsStorable order) (all_records tapes)
  are_storable first [] parts count each = All-nil (IsStorable order)
  are_storable first (tape ∷ tapes) [] count each = absurd (omega (arith, count))
  are_storable first (tape ∷ tapes) (part ∷ parts) count each =
      All-append (IsStorable order) (records_of tape) (all_records tapes)
      (of_runs tape (of_first first tape tapes part parts each).runs)
      (are_storable (first + 1) tapes parts (omega (arith, count)) (behind first tape tapes part parts each))

  have_order : (tapes : List (List RunView)) (parts : List (List SummedRange)) → length tapes ≡ length parts
      → ArePartsFrom plan heap claims 0 tapes parts → AllHaveOrder order tapes
  have_order tapes parts count each place d inside =
      let tape = get_or tapes place d in
      All-weaker (IsBoundedRun order plan.run_rows) (λ run. run.order ≡ order) (λ run bounded. bounded.same_order) tape
      (each place tape (get_or parts place []) (slice_get-get_or tapes place d inside)
      (slice_get-get_or parts place [] (omega (arith, inside, count)))).runs

module _ (plan : Plan) (heap : List ℕ) (scan : ScanState) (scanned : Scanned) (is : IsScanned plan heap scan scanned) where
  abbrev scanned_claims : List Claim
  scanned_claims = scanned.seat.view.claims

  as_many : length scanned.tapes ≡ length scanned.ranges
  as_many = is.tapes ∙ sym is.ranges

  module _ (law : ClaimsShareTheRows) (seats : List SeatState) (opened : IsOpenedFor plan heap scan seats) where
    -- they have the rows of the heap
    pub have_heap_rows : HaveHeapRows plan heap scanned.tapes scanned.ranges scanned.rows
    have_heap_rows =
        let rows = is.rows.0 in
        let all = shared plan heap scanned_claims 0 scanned.tapes scanned.ranges as_many is.each in
        let seat_count : length scanned.tapes ≡ scan.seats = is.tapes ∙ sym opened.workers in
        let legal : IsLegal (block_count heap) scan.seats scanned_claims =
        subst (λ (blocks : ℕ). IsLegal blocks scan.seats scanned_claims) opened.blocks is.seat.legal in
        let workers = subst (λ (count : ℕ). AreRowsOfWorkers plan.table plan.spec heap scanned_claims
        (range_with_len 0 count) all.rows) seat_count all.of_workers in
        let some = opened.workers in
        let same = law plan.table plan.spec heap scan.seats scanned_claims rows all.rows (omega (arith, some)) legal is.rows.1
        workers in record {
          whole = opened.whole;
          sound = is.sound;
          rows = rows;
          of_heap = is.rows.1;
          held =
              hold_permuted plan.spec all.rows rows (held_on scanned.tapes scanned.ranges) (IsPermutation-sym rows all.rows same)
              all.hold;
          counted = is.rows.2;
          order = have_order plan heap scanned_claims scanned.tapes scanned.ranges as_many is.each;
          storable = are_storable plan heap scanned_claims 0 scanned.tapes scanned.ranges as_many is.each;
        }

  -- and what is packed of them is the index
  pub built_of : (packed : Packed) → IsPackedOf plan heap scanned.rows packed
      → IsBuilt plan heap scan
      (record { image = packed.image; rows = scanned.rows; pairs = packed.pairs; seat = scanned.seat })
  built_of packed of = record {
    seat = is.seat;
    taken = of.taken;
    outcome = (is.sound, of.indexed);
    image = of.image;
    rows = of.counted;
    pairs = of.pairs;
  }
