-- What workers have together, when one's scan ends and when two teams become one.
use Rattle.std.proofs.Common.{◌≡◌, ◌≢◌, ℕ, zero, suc, ◌+◌, ◌-◌, ◌<◌, ◌≤◌, Bool, true, false, eqb, ltb, cond, List, [], ◌∷◌, ◌++◌, length, Option, Some, None, Result, Ok, Err, slice_get, refl, sym, ap, ap₂, subst, ◌∙◌, inl, inr, arith, All}
use Rattle.std.specs.Prelude.{IfOk}
use Rattle.std.specs.declared.alloc.AllocError.{AllocError}
use Rattle.std.specs.List.{flat_map}
use Rattle.std.proofs.lemmas.Bool.{cases_lt, false≢true, lt-ltb, le-ltb}
use Rattle.std.proofs.lemmas.List.{append-nil, append_assoc, length-append}
use Rattle.std.proofs.lemmas.List.Elements.{All-append, All-head, All-nil, All-tail, All-weaker, Contains-append_right, filter-append}
use Rattle.std.proofs.lemmas.List.Kept.{AllPairs-cons}
use Rattle.std.proofs.lemmas.Option.{slice_get_within}
use Rattle.pg_bytes.specs.Blocks.{block_count}
use Rattle.block_claim.specs.declared.claim.Claim.{Claim}
use Rattle.block_claim.specs.declared.view.View.{View}
use Rattle.block_claim.specs.Calls.{ClaimsAreLegal, IsFresh, IsSeatOf, NoReportIsMissed, ScanState, SeatState, is_done, ramp_of_seat}
use Rattle.block_claim.specs.Legal.{StandsWorkerByWorker}
use Rattle.block_claim.specs.Ramp.{Ramp, claims_by, ramp_of}
use Rattle.block_claim.specs.Views.{joined, least_of, unreported}
use Rattle.block_claim.proofs.Floors.{least_append}
use Rattle.block_claim.proofs.Ramps.{claims_all_by, claims_none_by}
use Rattle.shared_tape.specs.declared.stored.Record.{Record}
use Rattle.shared_tape.specs.Runs.{RunView, records_of}
use Rattle.run_merge.specs.Sorted.{all_records}
use Rattle.build_leader.specs.declared.plan.Plan.{Plan}
use Rattle.brin_summary.specs.declared.ranges.SummedRange.{SummedRange}
use Rattle.build_leader.specs.declared.scan.row_slot.RowSlot.{RowSlot}
use Rattle.build_leader.specs.declared.scan.sink.Sink.{Sink}
use Rattle.build_leader.specs.declared.scan.team.Team.{Team}
use Rattle.build_leader.specs.declared.scan.worker.BlockFault.{BlockFault}
use Rattle.build_leader.specs.declared.scan.worker.Share.{Share}
use Rattle.build_leader.specs.Calls.{ArePartsFrom, IsPartOf}
use Rattle.build_leader.specs.Claimed.{claimed_blocks, blocks_of_claim}
use Rattle.build_leader.specs.HeapRows.{AreRowsOfBlocks}
use Rattle.build_leader.specs.Holding.{Held, HoldRows, IsSinkOf, Suits, held_by, held_on, held_together}
use Rattle.build_leader.specs.Reader.{ReaderView}
use Rattle.build_leader.specs.Scanning.{HasRowsOf, HasTaken, IsBetweenClaims, IsJudged, IsScanOf, IsTakenOf, KeepsLeast, Taken, begun_with}
use Rattle.build_leader.specs.Teams.{AreClaimsOfWorkers, AreFreshSeats, IsAlone, IsTeam, joined_team, lesser_fault, reader_of, taken_by_team}
use Rattle.build_leader.proofs.PackerRows.{get-left, get-right}
use Rattle.build_leader.proofs.HeldRows.{hold_moved, hold_none, hold_together, nothing_held}
use Rattle.build_leader.proofs.SharedRows.{rows_append}
use Rattle.build_leader.proofs.WorkerBlocks.{judged_still}

-- ---- what a worker begins with

pub begun : (reader : ReaderView) (heap : List ℕ) (scan : ScanState) (worker : ℕ) (seat : SeatState) (sink : Sink) (slot : RowSlot)
    → IsFresh scan worker seat → Suits reader.spec sink → held_by sink ≡ nothing_held
    → IsBetweenClaims reader heap scan (begun_with seat sink slot)
begun reader heap scan worker seat sink slot fresh suits empty =
    let share : Share = begun_with seat sink slot in
    let least = ap least_of fresh.reports in
    let seen = fresh.seen in
    let none = ap length fresh.claims in
    record {
      worker = record {
        of_scan = fresh.of_scan;
        own = subst (λ (claims : List Claim). All (λ (c : Claim). c.worker ≡ seat.worker) claims) (sym fresh.claims) (All-nil (λ (c : Claim). c.worker ≡ seat.worker));
        suits = suits;
        legal = λ whole done.
            let going = ap (λ (claims : List Claim). (ramp_of seat.view.blocks (claims_by seat.worker claims)).done) fresh.claims in
            absurd (false≢true (sym going ∙ done));
        missed = λ whole. omega arith;
      };
      taken =
          subst (λ (claims : List Claim). HasTaken reader heap (claimed_blocks (block_count heap) claims) share) (sym fresh.claims)
          (record {
            judged = All-nil (IsJudged reader.table reader.spec heap seat.view);
            falls = omega arith;
            kept = fresh.reports;
            rows = λ none. record {
              rows = [];
              are = refl;
              hold = subst (HoldRows reader.spec []) (sym empty) (hold_none reader.spec);
              counted = refl;
            };
          });
      few = omega arith;
      few_rows = omega arith;
    }

-- ---- a worker alone

all_one_worker : (worker : ℕ) (claims : List Claim) → All (λ (c : Claim). c.worker ≡ worker) claims → StandsWorkerByWorker claims
all_one_worker worker claims own = λ i j d less inside.
    let first = own i d (omega arith) in
    let second = own j d inside in
    omega arith

one_part : (P : ℕ → List RunView → List SummedRange → Type 0) (first : ℕ) (tape : List RunView) (ranges : List SummedRange)
    → P first tape ranges → (place : ℕ) (other : List RunView) (others : List SummedRange) → slice_get (tape ∷ []) place ≡ Some other
    → slice_get (ranges ∷ []) place ≡ Some others → P (first + place) other others
one_part P first tape ranges is zero other others at beside =
    let same : tape ≡ other = cc in
    let same_ranges : ranges ≡ others = cc in
    let e : first ≡ first + 0 = omega arith in
    subst (λ (n : ℕ). P n other others) e (subst (P first other) same_ranges (subst (λ (t : List RunView). P first t ranges) same is))
one_part P first tape ranges is (suc place) other others at beside = cc

module _ (plan : Plan) (heap : List ℕ) (scan : ScanState) (worker : ℕ) (share : Share) (team : Team)
    (of : IsScanOf heap scan) (between : IsBetweenClaims (reader_of plan) heap scan share)
    (done : is_done share.seat ≡ true) (number : share.seat.worker ≡ worker)
    (suited : IsSinkOf plan.spec plan.run_rows share.sink) (alone : IsAlone share team) where
  abbrev claims : List Claim
  claims = share.seat.view.claims

  own_claims : All (λ (c : Claim). c.worker ≡ worker) claims
  own_claims = subst (λ (n : ℕ). All (λ (c : Claim). c.worker ≡ n) claims) number between.worker.own

  all_records_one : all_records (alone.tape ∷ []) ≡ records_of alone.tape
  all_records_one = append-nil (records_of alone.tape)

  abbrev own_ranges : List SummedRange
  own_ranges = (held_by share.sink).ranges

  abbrev on_tape : Held
  on_tape = record { records = records_of alone.tape; ranges = own_ranges }

  hold_on_tape : (rows : List Record) → HoldRows plan.spec rows (held_by share.sink) → HoldRows plan.spec rows on_tape
  hold_on_tape rows hold =
      hold_moved plan.spec rows (held_by share.sink).records (records_of alone.tape) own_ranges alone.same hold

  held_of_team : held_on team.tapes team.ranges ≡ on_tape
  held_of_team =
      ap₂ (λ (tapes : List (List RunView)) (parts : List (List SummedRange)). held_on tapes parts) alone.tapes alone.ranges
      ∙ ap₂ (λ (records : List Record) (ranges : List SummedRange). record { records = records; ranges = ranges })
      all_records_one (append-nil own_ranges)

  has_rows : HasRowsOf plan.table plan.spec heap (claimed_blocks (block_count heap) claims) (held_by share.sink) share.rows
      → HasRowsOf plan.table plan.spec heap (claimed_blocks (block_count heap) claims) (held_on team.tapes team.ranges) team.rows
  has_rows has = record {
    rows = has.rows;
    are = has.are;
    hold = subst (HoldRows plan.spec has.rows) (sym held_of_team) (hold_on_tape has.rows has.hold);
    counted = alone.rows ∙ has.counted;
  }

  part_of_worker : HasRowsOf plan.table plan.spec heap (claimed_blocks (block_count heap) claims) (held_by share.sink) share.rows
      → IsPartOf plan heap claims worker alone.tape own_ranges
  part_of_worker has = record {
    rows = has.rows;
    claimed =
        subst (λ (cs : List Claim). AreRowsOfBlocks plan.table plan.spec heap (claimed_blocks (block_count heap) cs) has.rows)
        (sym (claims_all_by worker claims own_claims)) has.are;
    held = hold_on_tape has.rows has.hold;
    runs = alone.runs plan.spec plan.run_rows suited;
  }

  -- it is a team of one
  pub is_alone : IsTeam plan heap scan worker 1 team
  is_alone =
      let same = alone.seat in
      let size = of.whole.0 in
      let blocks = of.blocks in
      let seats = of.seats in
      let few = between.few in
      let rows = between.few_rows in
      let total = alone.rows in
      record {
        of_scan = subst (IsSeatOf scan) (sym same) between.worker.of_scan;
        done = ap is_done same ∙ done;
        legal = subst ClaimsAreLegal (sym same) between.worker.legal;
        missed = subst NoReportIsMissed (sym same) between.worker.missed;
        own =
            subst (λ (s : SeatState). AreClaimsOfWorkers worker 1 s.view.claims) (sym same)
            (All-weaker (λ (c : Claim). c.worker ≡ worker) (λ (c : Claim). (worker ≤ c.worker) × (c.worker < worker + 1))
            (λ c is. (omega arith, omega arith)) claims own_claims);
        in_order = subst (λ (s : SeatState). StandsWorkerByWorker s.view.claims) (sym same) (all_one_worker worker claims own_claims);
        taken =
            subst (λ (s : SeatState). IsTakenOf (reader_of plan) heap (claimed_blocks (block_count heap) s.view.claims)
            (record { view = s.view; fault = team.fault; held = held_on team.tapes team.ranges; rows = team.rows })) (sym same)
            (record {
              judged = between.taken.judged;
              falls = between.taken.falls;
              kept = subst (KeepsLeast plan.table plan.spec heap share.seat.view.reports) (sym alone.fault) between.taken.kept;
              rows = λ none. has_rows (between.taken.rows none);
            });
        tapes = ap length alone.tapes;
        ranges = ap length alone.ranges;
        each =
            subst (λ (s : SeatState). unreported ≤ s.view.seen → ArePartsFrom plan heap s.view.claims worker team.tapes team.ranges) (sym same)
            (λ none. subst (λ (parts : List (List SummedRange)). ArePartsFrom plan heap claims worker team.tapes parts) (sym alone.ranges)
            (subst (λ (tapes : List (List RunView)). ArePartsFrom plan heap claims worker tapes (own_ranges ∷ [])) (sym alone.tapes)
            (one_part (IsPartOf plan heap claims) worker alone.tape own_ranges (part_of_worker (between.taken.rows none)))));
        few = omega arith;
      }

-- ---- the last of several seats

module _ (scan : ScanState) (seats rest : List SeatState) (last : SeatState) (are : seats ≡ rest ++ last ∷ [])
    (fresh : AreFreshSeats scan seats) where
  last_fresh : IsFresh scan (length rest) last
  last_fresh =
      fresh (length rest) last
      (ap (λ (all : List SeatState). slice_get all (length rest)) are
      ∙ ap (slice_get (rest ++ last ∷ [])) (let e : length rest ≡ length rest + 0 = omega arith in e)
      ∙ get-right rest (last ∷ []) 0)

  pub last_number : last.worker ≡ length rest
  last_number = last_fresh.number

  pub last_seat : IsFresh scan last.worker last
  last_seat = subst (λ (n : ℕ). IsFresh scan n last) (sym last_number) last_fresh

  pub rest_fresh : AreFreshSeats scan rest
  rest_fresh worker seat at =
      fresh worker seat
      (ap (λ (all : List SeatState). slice_get all worker) are
      ∙ get-left rest (last ∷ []) worker (slice_get_within rest worker seat at) ∙ at)

-- ---- two teams as one

pairs_append : (a b : List Claim) → All (λ (x : Claim). All (λ (y : Claim). x.worker ≤ y.worker) b) a → StandsWorkerByWorker a
    → StandsWorkerByWorker b → StandsWorkerByWorker (a ++ b)
pairs_append [] b across first second = second
pairs_append (x ∷ a) b across first second =
    AllPairs-cons (λ (p q : Claim). p.worker ≤ q.worker) x (a ++ b)
    (All-append (λ (y : Claim). x.worker ≤ y.worker) a b
    (λ k d inside. first 0 (suc k) d (omega arith) (omega arith))
    (All-head (λ (x : Claim). All (λ (y : Claim). x.worker ≤ y.worker) b) x a across))
    (pairs_append a b (All-tail (λ (x : Claim). All (λ (y : Claim). x.worker ≤ y.worker) b) x a across)
    (λ i j d less inside. first (suc i) (suc j) d (omega arith) (omega arith)) second)

ranges_append : (a b : List (List SummedRange))
    → flat_map (λ (part : List SummedRange). part) (a ++ b) ≡ flat_map (λ (part : List SummedRange). part) a ++ flat_map (λ (part : List SummedRange). part) b
ranges_append [] b = refl
ranges_append (r ∷ a) b =
    ap (λ (rs : List SummedRange). r ++ rs) (ranges_append a b)
    ∙ sym (append_assoc r (flat_map (λ (part : List SummedRange). part) a) (flat_map (λ (part : List SummedRange). part) b))

records_append : (a b : List (List RunView)) → all_records (a ++ b) ≡ all_records a ++ all_records b
records_append [] b = refl
records_append (t ∷ a) b =
    ap (λ (rs : List Record). records_of t ++ rs) (records_append a b)
    ∙ sym (append_assoc (records_of t) (all_records a) (all_records b))

pub blocks_append : (blocks : ℕ) (a b : List Claim)
    → claimed_blocks blocks (a ++ b) ≡ claimed_blocks blocks a ++ claimed_blocks blocks b
blocks_append blocks [] b = refl
blocks_append blocks (c ∷ a) b =
    ap (λ (ns : List ℕ). blocks_of_claim blocks c ++ ns) (blocks_append blocks a b)
    ∙ sym (append_assoc (blocks_of_claim blocks c) (claimed_blocks blocks a) (claimed_blocks blocks b))

append_none : (x y : List ℕ) → x ≡ [] → y ≡ [] → x ++ y ≡ []
append_none x y first second = ap (λ (l : List ℕ). l ++ y) first ∙ second

module _ (reader : ReaderView) (heap : List ℕ) where
  -- the lesser of the faults that two kept is that of the least of their reports
  kept_of_both : (first second : List ℕ) (a b : Option BlockFault) → KeepsLeast reader.table reader.spec heap first a
      → KeepsLeast reader.table reader.spec heap second b
      → KeepsLeast reader.table reader.spec heap (first ++ second) (lesser_fault a b)
  kept_of_both first second None None one other = append_none first second one other
  kept_of_both first second None (Some b) one other =
      let least : least_of (first ++ second) ≡ least_of second = ap (λ (l : List ℕ). least_of (l ++ second)) one in
      (other.0 ∙ sym least, other.1, other.2)
  kept_of_both first second (Some a) None one other =
      let least : least_of (first ++ second) ≡ least_of first =
      ap (λ (l : List ℕ). least_of (first ++ l)) other ∙ ap least_of (append-nil first) in
      (one.0 ∙ sym least, one.1, one.2)
  kept_of_both first second (Some a) (Some b) one other =
      let least = least_append first second in
      let left = one.0 in
      let right = other.0 in
      elim (cases_lt b.block a.block) [
        | inl below ↦
            let e : ltb b.block a.block ≡ true = lt-ltb b.block a.block below in
            subst (KeepsLeast reader.table reader.spec heap (first ++ second)) (sym (ap (λ (t : Bool). cond t (Some b) (Some a)) e))
            (omega arith, other.1, other.2)
        | inr above ↦
            let e : ltb b.block a.block ≡ false = le-ltb b.block a.block above in
            subst (KeepsLeast reader.table reader.spec heap (first ++ second)) (sym (ap (λ (t : Bool). cond t (Some b) (Some a)) e))
            (omega arith, one.1, one.2)
      ]

  rows_of_both : (xs ys : List ℕ) (a b : Held) (m n : ℕ) → HasRowsOf reader.table reader.spec heap xs a m
      → HasRowsOf reader.table reader.spec heap ys b n
      → HasRowsOf reader.table reader.spec heap (xs ++ ys) (held_together a b) (m + n)
  rows_of_both xs ys a b m n one other =
      let both = length-append one.rows other.rows in
      let first = one.counted in
      let second = other.counted in
      record {
        rows = one.rows ++ other.rows;
        are = rows_append reader.table reader.spec heap xs ys one.rows other.rows one.are other.are;
        hold = hold_together reader.spec one.rows other.rows a b one.hold other.hold;
        counted = omega arith;
      }

  -- what a team knows of its blocks it still knows when another stands in front of it
  judged_behind : (a b : View) (blocks : List ℕ) → All (IsJudged reader.table reader.spec heap b) blocks
      → All (IsJudged reader.table reader.spec heap (joined a b)) blocks
  judged_behind a b blocks all =
      All-weaker (IsJudged reader.table reader.spec heap b) (IsJudged reader.table reader.spec heap (joined a b)) still blocks all
    where
      still : (block : ℕ) → IsJudged reader.table reader.spec heap b block → IsJudged reader.table reader.spec heap (joined a b) block
      still block (inl sound) = inl sound
      still block (inr (inl above)) = inr (inl (omega arith))
      still block (inr (inr told)) = inr (inr (Contains-append_right a.reports b.reports block told))

  pub taken_of_both : (xs ys : List ℕ) (a b : Taken) → IsTakenOf reader heap xs a → IsTakenOf reader heap ys b
      → IsTakenOf reader heap (xs ++ ys) (record {
        view = joined a.view b.view;
        fault = lesser_fault a.fault b.fault;
        held = held_together a.held b.held;
        rows = a.rows + b.rows;
      })
  taken_of_both xs ys a b one other =
      let least = least_append a.view.reports b.view.reports in
      let first = one.falls in
      let second = other.falls in
      record {
        judged = All-append (IsJudged reader.table reader.spec heap (joined a.view b.view)) xs ys
            (judged_still reader.table reader.spec heap a.view (joined a.view b.view) xs (omega arith) b.view.reports refl one.judged)
            (judged_behind a.view b.view ys other.judged);
        falls = omega arith;
        kept = kept_of_both a.view.reports b.view.reports a.fault b.fault one.kept other.kept;
        rows = λ none. rows_of_both xs ys a.held b.held a.rows b.rows (one.rows (omega arith)) (other.rows (omega arith));
      }

module _ (plan : Plan) (heap : List ℕ) (scan : ScanState) (first m n : ℕ) (a b : Team)
    (one : IsTeam plan heap scan first m a) (other : IsTeam plan heap scan (first + m) n b) where
  abbrev front : List Claim
  front = a.seat.view.claims

  abbrev back : List Claim
  back = b.seat.view.claims

  abbrev both : Team
  both = joined_team a b

  -- the claims of the first team's workers are still theirs alone
  by_front : (worker : ℕ) → worker < first + m → claims_by worker (front ++ back) ≡ claims_by worker front
  by_front worker below =
      filter-append (λ (c : Claim). eqb c.worker worker) front back
      ∙ ap (λ (cs : List Claim). claims_by worker front ++ cs)
      (claims_none_by worker back
      (All-weaker (λ (c : Claim). (first + m ≤ c.worker) × (c.worker < (first + m) + n)) (λ (c : Claim). c.worker ≢ worker)
      (λ c is same. let low = is.0 in omega arith) back other.own))
      ∙ append-nil (claims_by worker front)

  by_back : (worker : ℕ) → first + m ≤ worker → claims_by worker (front ++ back) ≡ claims_by worker back
  by_back worker above =
      filter-append (λ (c : Claim). eqb c.worker worker) front back
      ∙ ap (λ (cs : List Claim). cs ++ claims_by worker back)
      (claims_none_by worker front
      (All-weaker (λ (c : Claim). (first ≤ c.worker) × (c.worker < first + m)) (λ (c : Claim). c.worker ≢ worker)
      (λ c is same. let high = is.1 in omega arith) front one.own))

  -- a part with the rows that its worker claimed, by other claims that give this worker the same
  part_still : (before more : List Claim) (worker : ℕ) (tape : List RunView) (ranges : List SummedRange)
      → claims_by worker more ≡ claims_by worker before → IsPartOf plan heap before worker tape ranges
      → IsPartOf plan heap more worker tape ranges
  part_still before more worker tape ranges same is = record {
    rows = is.rows;
    claimed =
        subst (λ (cs : List Claim). AreRowsOfBlocks plan.table plan.spec heap (claimed_blocks (block_count heap) cs) is.rows)
        (sym same) is.claimed;
    held = is.held;
    runs = is.runs;
  }

  pub are_team : ClaimsAreLegal both.seat → NoReportIsMissed both.seat → is_done both.seat ≡ true
      → IsTeam plan heap scan first (m + n) both
  are_team legal missed done =
      let whole : first + (m + n) ≡ (first + m) + n = omega arith in
      let few = one.few in
      let fewer = other.few in
      record {
        of_scan = record { table = one.of_scan.table; blocks = one.of_scan.blocks; seats = one.of_scan.seats };
        done = done;
        legal = legal;
        missed = missed;
        own = All-append (λ (c : Claim). (first ≤ c.worker) × (c.worker < first + (m + n))) front back
            (All-weaker (λ (c : Claim). (first ≤ c.worker) × (c.worker < first + m))
            (λ (c : Claim). (first ≤ c.worker) × (c.worker < first + (m + n)))
            (λ c is. let high = is.1 in (is.0, omega arith)) front one.own)
            (All-weaker (λ (c : Claim). (first + m ≤ c.worker) × (c.worker < (first + m) + n))
            (λ (c : Claim). (first ≤ c.worker) × (c.worker < first + (m + n)))
            (λ c is. let low = is.0 in let high = is.1 in (omega arith, omega arith)) back other.own);
        in_order = pairs_append front back
            (All-weaker (λ (c : Claim). (first ≤ c.worker) × (c.worker < first + m))
            (λ (x : Claim). All (λ (y : Claim). x.worker ≤ y.worker) back)
            (λ x is. All-weaker (λ (c : Claim). (first + m ≤ c.worker) × (c.worker < (first + m) + n)) (λ (y : Claim). x.worker ≤ y.worker)
            (λ y at. let high = is.1 in let low = at.0 in omega arith) back other.own) front one.own)
            one.in_order other.in_order;
        taken =
            subst (λ (ns : List ℕ). IsTakenOf (reader_of plan) heap ns (taken_by_team both))
            (sym (blocks_append (block_count heap) front back))
            (subst (λ (held : Held). IsTakenOf (reader_of plan) heap
            (claimed_blocks (block_count heap) front ++ claimed_blocks (block_count heap) back)
            (record { view = both.seat.view; fault = both.fault; held = held; rows = both.rows }))
            (sym (ap₂ (λ (records : List Record) (ranges : List SummedRange). record { records = records; ranges = ranges })
            (records_append a.tapes b.tapes) (ranges_append a.ranges b.ranges)))
            (taken_of_both (reader_of plan) heap (claimed_blocks (block_count heap) front)
            (claimed_blocks (block_count heap) back) (taken_by_team a) (taken_by_team b) one.taken other.taken));
        tapes = length-append a.tapes b.tapes ∙ (let c = one.tapes in let d = other.tapes in omega arith);
        ranges = length-append a.ranges b.ranges ∙ (let c = one.ranges in let d = other.ranges in omega arith);
        each = λ none. each_of (omega arith) (omega arith);
        few = omega arith;
      }
    where
      each_of : unreported ≤ a.seat.view.seen → unreported ≤ b.seat.view.seen
          → ArePartsFrom plan heap (front ++ back) first (a.tapes ++ b.tapes) (a.ranges ++ b.ranges)
      each_of no_front no_back place tape ranges at beside =
          let m_is = one.tapes in
          let parts = one.ranges in
          elim (cases_lt place (length a.tapes)) [
            | inl below ↦
                let here : slice_get a.tapes place ≡ Some tape =
                sym (get-left a.tapes b.tapes place below) ∙ at in
                let with : slice_get a.ranges place ≡ Some ranges =
                sym (get-left a.ranges b.ranges place (omega arith)) ∙ beside in
                part_still front (front ++ back) (first + place) tape ranges (by_front (first + place) (omega arith))
                (one.each no_front place tape ranges here with)
            | inr above ↦
                let rest : length a.tapes + (place - length a.tapes) ≡ place = omega arith in
                let there : slice_get b.tapes (place - length a.tapes) ≡ Some tape =
                sym (get-right a.tapes b.tapes (place - length a.tapes))
                ∙ ap (slice_get (a.tapes ++ b.tapes)) rest ∙ at in
                let rest_too : length a.ranges + (place - length a.tapes) ≡ place = omega arith in
                let with : slice_get b.ranges (place - length a.tapes) ≡ Some ranges =
                sym (get-right a.ranges b.ranges (place - length a.tapes))
                ∙ ap (slice_get (a.ranges ++ b.ranges)) rest_too ∙ beside in
                let worker : (first + m) + (place - length a.tapes) ≡ first + place = omega arith in
                part_still back (front ++ back) (first + place) tape ranges (by_back (first + place) (omega arith))
                (subst (λ (w : ℕ). IsPartOf plan heap back w tape ranges) worker
                (other.each no_back (place - length a.tapes) tape ranges there with))
          ]

-- what the call that joins them answers
pub both_are_team : (plan : Plan) (heap : List ℕ) (scan : ScanState) (m : ℕ) (a b : Team) (answer : Result Team AllocError)
    → IsTeam plan heap scan 0 m a → IsTeam plan heap scan m 1 b → IfOk answer (λ team. team ≡ joined_team a b)
    → IfOk answer (λ team. ramp_of_seat team.seat ≡ ramp_of_seat a.seat) → IfOk answer (λ team. ClaimsAreLegal team.seat)
    → IfOk answer (λ team. NoReportIsMissed team.seat) → IfOk answer (IsTeam plan heap scan 0 (m + 1))
both_are_team plan heap scan m a b (Err e) one other joined place legal missed = tt
both_are_team plan heap scan m a b (Ok team) one other joined place legal missed =
    subst (IsTeam plan heap scan 0 (m + 1)) (sym joined)
    (are_team plan heap scan 0 m 1 a b one
    (subst (λ (n : ℕ). IsTeam plan heap scan n 1 b) (let e : m ≡ 0 + m = omega arith in e) other)
    (subst (λ (t : Team). ClaimsAreLegal t.seat) joined legal) (subst (λ (t : Team). NoReportIsMissed t.seat) joined missed)
    (ap (λ (t : Team). is_done t.seat) (sym joined) ∙ ap (λ (r : Ramp). r.done) place ∙ one.done))
