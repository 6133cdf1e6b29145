-- What all workers of a scan come to at its end.
use Rattle.std.proofs.Common.{◌≡◌, ℕ, zero, suc, ◌+◌, ◌<◌, ◌≤◌, Bool, ltb, cond, List, [], ◌∷◌, length, Some, None, Result, Ok, Err, sym, ap, subst, ◌∙◌, inl, inr, arith}
use Rattle.std.specs.Prelude.{Contains, IfErr}
use Rattle.std.specs.List.{range_with_len}
use Rattle.std.proofs.lemmas.Bool.{lt-ltb}
use Rattle.std.proofs.lemmas.List.Elements.{All-contains}
use Rattle.std.proofs.lemmas.List.Sorted.{length_permutation}
use Rattle.pg_bytes.specs.Blocks.{block_count}
use Rattle.block_claim.specs.declared.claim.Claim.{Claim}
use Rattle.block_claim.specs.Calls.{HasWholeShare, ScanState, SeatState}
use Rattle.block_claim.specs.Legal.{IsLegalInSomeOrder}
use Rattle.block_claim.specs.Views.{least_of, unreported}
use Rattle.build_leader.specs.declared.fault.LeadFault.{LeadFault}
use Rattle.build_leader.specs.declared.fault.LeadFault.TheVariants as lead
use Rattle.build_leader.specs.declared.plan.Plan.{Plan}
use Rattle.build_leader.specs.declared.scan.scanned.Scanned.{Scanned}
use Rattle.build_leader.specs.declared.scan.team.Team.{Team}
use Rattle.build_leader.specs.declared.scan.worker.BlockFault.{BlockFault}
use Rattle.build_leader.specs.Calls.{CountsRows, IsFinished, IsOpenedFor, IsPlan, IsScanFault, IsScanned}
use Rattle.build_leader.specs.Claimed.{claimed_blocks}
use Rattle.build_leader.specs.HeapRows.{HasSoundBlocks, IsFirstFault}
use Rattle.build_leader.specs.Holding.{held_on}
use Rattle.build_leader.specs.Scanning.{HasRowsOf, IsJudged, IsScanOf, KeepsLeast}
use Rattle.build_leader.specs.Teams.{HandsOver, IsTeam, TellsFault, share_of_seats}
use Rattle.build_leader.proofs.EqualCounts.{permuted, times, times-range_zero, times_contains}
use Rattle.build_leader.proofs.SharedRows.{block_once, moved_rows, of_claims}

-- ---- what holds of a result

pub err_then : {T E : Type 0} (P Q : E → Type 0) (r : Result T E) → ((e : E) → P e → Q e) → IfErr r P → IfErr r Q
err_then P Q (Ok x) f holds = holds
err_then P Q (Err e) f holds = f e holds

-- ---- at the end

least_contains : (reports : List ℕ) (n : ℕ) → Contains reports n → least_of reports ≤ n
least_contains [] n there = absurd (omega (arith, there.1))
least_contains (b ∷ bs) n (zero, below, same) = omega (arith, same)
least_contains (b ∷ bs) n (suc k, below, same) =
    let rest = least_contains bs n (k, omega arith, same) in
    omega arith

-- the team of all workers of a scan
pub record IsWholeTeam (plan : Plan) (heap : List ℕ) (scan : ScanState) (team : Team) : Type 0 where
  pub of : IsScanOf heap scan
  pub some : 0 < scan.seats
  pub workers : scan.seats ≡ plan.workers + 1
  pub team_is : IsTeam plan heap scan 0 scan.seats team
  pub whole : HasWholeShare team.seat

module _ (plan : Plan) (heap : List ℕ) (scan : ScanState) (team : Team) (end : IsWholeTeam plan heap scan team) where
  abbrev claims : List Claim
  claims = team.seat.view.claims

  legal_of_scan : IsLegalInSomeOrder scan.blocks scan.seats claims
  legal_of_scan =
      subst (λ (seats : ℕ). IsLegalInSomeOrder scan.blocks seats claims) end.team_is.of_scan.seats
      (subst (λ (blocks : ℕ). IsLegalInSomeOrder blocks team.seat.view.seats claims) end.team_is.of_scan.blocks
      (end.team_is.legal end.whole end.team_is.done))

  legal_of_heap : IsLegalInSomeOrder (block_count heap) scan.seats claims
  legal_of_heap = subst (λ (blocks : ℕ). IsLegalInSomeOrder blocks scan.seats claims) end.of.blocks legal_of_scan

  each_once : (n : ℕ) → times n (claimed_blocks (block_count heap) claims) ≡ cond (ltb n (block_count heap)) 1 0
  each_once n =
      of_claims n (block_count heap) claims
      ∙ block_once (block_count heap) scan.seats claims end.some legal_of_heap n

  covered : (n : ℕ) → n < block_count heap → Contains (claimed_blocks (block_count heap) claims) n
  covered n below =
      let e = lt-ltb n (block_count heap) below in
      let once = each_once n ∙ ap (λ (b : Bool). cond b 1 0) e in
      times_contains n (claimed_blocks (block_count heap) claims) (omega arith)

  judged : (n : ℕ) → n < block_count heap → IsJudged plan.table plan.spec heap team.seat.view n
  judged n below =
      All-contains (IsJudged plan.table plan.spec heap team.seat.view) (claimed_blocks (block_count heap) claims) n
      end.team_is.taken.judged (covered n below)

  few_blocks : block_count heap ≤ 131072
  few_blocks = let whole = end.of.whole.0 in omega arith

  all_seen : least_of team.seat.view.reports ≤ team.seat.view.seen
  all_seen = end.team_is.missed end.whole

  module _ (none : team.fault ≡ None) where
    no_reports : team.seat.view.reports ≡ []
    no_reports = subst (KeepsLeast plan.table plan.spec heap team.seat.view.reports) none end.team_is.taken.kept

    saw_none : unreported ≤ team.seat.view.seen
    saw_none =
        let least = ap least_of no_reports in
        let seen = all_seen in
        omega arith

    -- no block has a fault
    sound_blocks : HasSoundBlocks plan.table plan.spec heap
    sound_blocks block below = elim (judged block below) [
      | inl sound ↦ sound
      | inr other ↦ elim other [
        | inl above ↦ let few = few_blocks in let seen = saw_none in absurd (omega arith)
        | inr told ↦ absurd (let nothing = subst (λ (reports : List ℕ). Contains reports block) no_reports told in omega (arith, nothing.1))
      ]
    ]

    -- and all rows were taken
    all_rows : HasRowsOf plan.table plan.spec heap (claimed_blocks (block_count heap) claims) (held_on team.tapes team.ranges) team.rows
    all_rows = end.team_is.taken.rows saw_none

    counts : CountsRows plan heap team.rows
    counts =
        let rows = all_rows in
        let blocks = block_count heap in
        let moved = moved_rows plan.table plan.spec heap (claimed_blocks blocks claims) (range_with_len 0 blocks)
        (permuted (claimed_blocks blocks claims) (range_with_len 0 blocks)
        (λ n. each_once n ∙ sym (times-range_zero n blocks))) rows.rows rows.are in
        (moved.0, moved.1, rows.counted ∙ sym (length_permutation rows.rows moved.0 moved.2))

  -- the fault that was kept is the heap's first
  first_fault : (fault : BlockFault) → team.fault ≡ Some fault
      → IsFirstFault plan.table plan.spec heap fault.block fault.item fault.cause
  first_fault fault kept =
      let is = subst (KeepsLeast plan.table plan.spec heap team.seat.view.reports) kept end.team_is.taken.kept in
      let least = is.0 in
      let inside = is.1 in
      let seen = all_seen in
      record {
        inside = is.1;
        first = λ lesser below. elim (judged lesser (omega arith)) [
          | inl sound ↦ sound
          | inr other ↦ elim other [
            | inl above ↦ absurd (omega arith)
            | inr told ↦ absurd (let more = least_contains team.seat.view.reports lesser told in omega arith)
          ]
        ];
        fault = is.2;
      }

  finished : IsFinished scan team.seat
  finished = record {
    of_scan = end.team_is.of_scan;
    done = end.team_is.done;
    whole = end.whole;
    legal = record { in_order = end.team_is.in_order; legal = legal_of_scan };
  }

  -- ---- what is handed over

  pub is_scanned : (scanned : Scanned) → HandsOver team scanned → IsScanned plan heap scan scanned
  is_scanned scanned over =
      let tapes = end.team_is.tapes in
      let ranges = end.team_is.ranges in
      let workers = end.workers in
      subst (IsScanned plan heap scan) (sym over.is)
      (record {
        seat = finished;
        sound = sound_blocks over.sound;
        tapes = omega arith;
        ranges = omega arith;
        each = end.team_is.each (saw_none over.sound);
        rows = counts over.sound;
      })

  pub is_scan_fault : (fault : LeadFault) → TellsFault team fault → IsScanFault plan heap fault
  is_scan_fault (lead.Row block item cause) told =
      first_fault (record { block = block; item = item; cause = cause }) told
  is_scan_fault (lead.Duplicate first second) told = told
  is_scan_fault (lead.RangeWide range size) told = told
  is_scan_fault lead.Memory told = tt

-- ---- the scan of a plan

module _ (plan : Plan) (heap : List ℕ) (scan : ScanState) (seats : List SeatState) (well : IsPlan plan)
    (opened : IsOpenedFor plan heap scan seats) where
  pub scan_of : IsScanOf heap scan
  scan_of =
      let workers = opened.workers in
      let few = well.workers in
      record { whole = opened.whole; blocks = opened.blocks; seats = omega arith }

  pub some_seats : 0 < length seats
  some_seats = let count = opened.opened.count in let workers = opened.workers in omega arith

  pub few_seats : length seats ≤ 32
  few_seats = let count = opened.opened.count in let workers = opened.workers in let few = well.workers in omega arith

  pub whole_team : (team : Team) → IsTeam plan heap scan 0 (length seats) team → team.seat.view.share ≡ share_of_seats seats
      → IsWholeTeam plan heap scan team
  whole_team team is share =
      let workers = opened.workers in
      record {
        of = scan_of;
        some = omega arith;
        workers = opened.workers;
        team_is = subst (λ (count : ℕ). IsTeam plan heap scan 0 count team) opened.opened.count is;
        whole = share ∙ opened.opened.share;
      }
