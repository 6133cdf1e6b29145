-- What a worker has, claim by claim.
use Rattle.std.proofs.Common.{◌≡◌, ℕ, zero, suc, ◌+◌, ◌-◌, ◌^◌, ◌<◌, ◌≤◌, Bool, true, false, ltb, min, List, [], ◌∷◌, ◌++◌, length, Option, Some, None, if◌then◌else◌, refl, sym, ap, subst, ◌∙◌, inl, inr, arith, All}
use Rattle.std.specs.Prelude.{filter}
use Rattle.std.specs.List.{range_with_len}
use Rattle.std.proofs.lemmas.Bool.{cases_lt, le-ltb, lt-ltb}
use Rattle.std.proofs.lemmas.List.{append-nil, append_assoc, length-append}
use Rattle.std.proofs.lemmas.List.Elements.{All-push}
use Rattle.pg_bytes.specs.Blocks.{block_count}
use Rattle.block_claim.specs.declared.claim.Claim.{Claim}
use Rattle.block_claim.specs.Calls.{ClaimsAreLegal, IsSeatOf, MakesClaim, NoReportIsMissed, ScanState, SeatState}
use Rattle.block_claim.specs.Ramp.{claim_at}
use Rattle.block_claim.specs.Views.{least_of}
use Rattle.build_leader.specs.declared.scan.worker.Share.{Share}
use Rattle.build_leader.specs.Claimed.{blocks_of_claim, claimed_blocks}
use Rattle.build_leader.specs.Reader.{ReaderView}
use Rattle.build_leader.specs.Scanning.{HasTaken, IsBetweenClaims, IsWorker, KeepsLeast, TakesBlocks}
use Rattle.build_leader.proofs.WorkerBlocks.{judged_still}

-- ---- the blocks of a claim

none_below : (blocks first size : ℕ) → blocks ≤ first → filter (λ n. ltb n blocks) (range_with_len first size) ≡ []
none_below blocks first zero past = refl
none_below blocks first (suc size) past =
    let e : ltb first blocks ≡ false = le-ltb first blocks past in
    rw e (none_below blocks (first + 1) size (omega arith))

some_below : (blocks first size : ℕ) → first < blocks
    → filter (λ n. ltb n blocks) (range_with_len first size) ≡ range_with_len first (min blocks (first + size) - first)
some_below blocks first zero inside =
    let e : min blocks (first + 0) - first ≡ 0 = omega arith in
    sym (ap (range_with_len first) e)
some_below blocks first (suc size) inside =
    let e : ltb first blocks ≡ true = lt-ltb first blocks inside in
    let count : min blocks (first + suc size) - first ≡ suc (min blocks ((first + 1) + size) - (first + 1)) = omega arith in
    elim (cases_lt (first + 1) blocks) [
      | inl more ↦
          rw e (ap (λ (ns : List ℕ). first ∷ ns) (some_below blocks (first + 1) size more) ∙ sym (ap (range_with_len first) count))
      | inr last ↦
          let none : min blocks ((first + 1) + size) - (first + 1) ≡ 0 = omega arith in
          rw e (
          ap (λ (ns : List ℕ). first ∷ ns) (none_below blocks (first + 1) size last ∙ sym (ap (range_with_len (first + 1)) none))
          ∙ sym (ap (range_with_len first) count))
    ]

claimed_push : (blocks : ℕ) (claims : List Claim) (claim : Claim)
    → claimed_blocks blocks (claims ++ claim ∷ []) ≡ claimed_blocks blocks claims ++ blocks_of_claim blocks claim
claimed_push blocks [] claim = append-nil (blocks_of_claim blocks claim)
claimed_push blocks (c ∷ cs) claim =
    ap (λ (ns : List ℕ). blocks_of_claim blocks c ++ ns) (claimed_push blocks cs claim)
    ∙ sym (append_assoc (blocks_of_claim blocks c) (claimed_blocks blocks cs) (blocks_of_claim blocks claim))

-- ---- what a claim answers

pub claim_told : (b : Bool) (x claim : Claim) → Some claim ≡ (if b then Some x else None) → (b ≡ true) × (claim ≡ x)
claim_told true x claim e = (refl, cc)
claim_told false x claim e = cc

pub none_told : (b : Bool) (x : Claim) → ◌≡◌ {A = Option Claim} None (if b then Some x else None) → b ≡ false
none_told true x e = cc
none_told false x e = refl

-- ---- a worker and its seat

module _ (reader : ReaderView) (heap : List ℕ) (scan : ScanState) where
  -- a seat that has seen more knows no less of its blocks
  seen_more : (share : Share) (seat : SeatState) (blocks : List ℕ) → seat.view.reports ≡ share.seat.view.reports
      → seat.view.seen ≤ share.seat.view.seen → HasTaken reader heap blocks share
      → HasTaken reader heap blocks (record share { seat = seat })
  seen_more share seat blocks reports falls has =
      let before = has.falls in
      let least = ap least_of reports in
      record {
        judged = judged_still reader.table reader.spec heap share.seat.view seat.view blocks falls [] (reports ∙ sym (append-nil share.seat.view.reports)) has.judged;
        falls = omega arith;
        kept = subst (λ (told : List ℕ). KeepsLeast reader.table reader.spec heap told share.fault) (sym reports) has.kept;
        rows = λ none. has.rows (omega arith);
      }

  -- after a claim that has a block, once its blocks are taken
  pub between_some : (old new : Share) (seat : SeatState) (claim : Claim) (end : ℕ) → IsBetweenClaims reader heap scan old
      → seat.view.claims ≡ old.seat.view.claims ++ claim ∷ [] → seat.view.reports ≡ old.seat.view.reports
      → seat.view.seen ≤ old.seat.view.seen → length seat.view.claims ≤ scan.blocks + scan.seats
      → claim.first < block_count heap → end ≡ min (block_count heap) (claim.first + claim.size) → new.seat.view.claims ≡ seat.view.claims
      → new.rows ≤ old.rows + 2 ^ 33 → IsWorker reader scan new
      → TakesBlocks reader heap (range_with_len claim.first (end - claim.first)) (record old { seat = seat }) new
      → IsBetweenClaims reader heap scan new
  between_some old new seat claim end before claims reports falls few inside end_is same rows worker taken =
      let blocks = block_count heap in
      let here : range_with_len claim.first (end - claim.first) ≡ blocks_of_claim blocks claim =
      ap (λ (n : ℕ). range_with_len claim.first (n - claim.first)) end_is ∙ sym (some_below blocks claim.first claim.size inside) in
      let all : claimed_blocks blocks old.seat.view.claims ++ range_with_len claim.first (end - claim.first) ≡ claimed_blocks blocks new.seat.view.claims =
      ap (λ (ns : List ℕ). claimed_blocks blocks old.seat.view.claims ++ ns) here
      ∙ sym (claimed_push blocks old.seat.view.claims claim) ∙ sym (ap (claimed_blocks blocks) (same ∙ claims)) in
      let count = ap length (same ∙ claims) ∙ length-append old.seat.view.claims (claim ∷ []) in
      let fewer = before.few_rows in
      let same_count = ap length same in
      record {
        worker = worker;
        taken = subst (λ (ns : List ℕ). HasTaken reader heap ns new) all
            (taken (claimed_blocks blocks old.seat.view.claims) (seen_more old seat (claimed_blocks blocks old.seat.view.claims) reports falls before.taken));
        few = omega arith;
        few_rows = omega arith;
      }

  -- after a claim that has none
  pub between_none : (old : Share) (seat : SeatState) (claim : Claim) → IsBetweenClaims reader heap scan old
      → seat.view.claims ≡ old.seat.view.claims ++ claim ∷ [] → seat.view.reports ≡ old.seat.view.reports
      → seat.view.seen ≤ old.seat.view.seen → length seat.view.claims ≤ scan.blocks + scan.seats
      → block_count heap ≤ claim.first → IsWorker reader scan (record old { seat = seat }) → IsBetweenClaims reader heap scan (record old { seat = seat })
  between_none old seat claim before claims reports falls small past worker =
      let blocks = block_count heap in
      let all : claimed_blocks blocks old.seat.view.claims ≡ claimed_blocks blocks seat.view.claims =
      sym (ap (claimed_blocks blocks) claims ∙ claimed_push blocks old.seat.view.claims claim
      ∙ ap (λ (ns : List ℕ). claimed_blocks blocks old.seat.view.claims ++ ns) (none_below blocks claim.first claim.size past)
      ∙ append-nil (claimed_blocks blocks old.seat.view.claims)) in
      let count = ap length claims ∙ length-append old.seat.view.claims (claim ∷ []) in
      let fewer = before.few_rows in
      record {
        worker = worker;
        taken = subst (λ (ns : List ℕ). HasTaken reader heap ns (record old { seat = seat })) all
            (seen_more old seat (claimed_blocks blocks old.seat.view.claims) reports falls before.taken);
        few = small;
        few_rows = omega arith;
      }

  -- the worker, where its seat made a claim
  pub claimed_worker : (old : Share) (seat : SeatState) (answer : Option Claim) → IsWorker reader scan old → MakesClaim old.seat answer seat
      → ClaimsAreLegal seat → NoReportIsMissed seat → IsWorker reader scan (record old { seat = seat })
  claimed_worker old seat answer worker event legal missed =
      let claim : Claim = claim_at old.seat.view.blocks old.seat.worker old.seat.view.claims event.0 in
      let is = event.1 in
      record {
        of_scan = subst (IsSeatOf scan) (sym is) (record { table = worker.of_scan.table; blocks = worker.of_scan.blocks; seats = worker.of_scan.seats });
        own =
            subst (λ (s : SeatState). All (λ (c : Claim). c.worker ≡ s.worker) s.view.claims) (sym is)
            (All-push (λ (c : Claim). c.worker ≡ old.seat.worker) old.seat.view.claims claim worker.own refl);
        suits = worker.suits;
        legal = legal;
        missed = missed;
      }
