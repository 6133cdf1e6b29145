-- The seats of a scan, dealt out one number after another.
use Rattle.std.proofs.Common.{◌≡◌, ℕ, zero, suc, ◌+◌, ◌-◌, ◌*◌, ◌^◌, ◌<◌, ◌≤◌, List, [], ◌∷◌, ◌++◌, length, get_or, sym, refl, ap, subst, ◌∙◌, length-append, arith}
use Rattle.std.proofs.lemmas.Option.{get_or_from_slice_get, slice_get_within}
use Rattle.std.specs.Prelude.{slice_get, Some}
use Rattle.std.specs.List.{range_with_len}
use Rattle.block_claim.specs.declared.view.View.{View}
use Rattle.block_claim.specs.Views.{first_worker, other_workers, left_over, handed_out, seat_share, whole_share, unreported, IsFreshView}
use Rattle.block_claim.specs.Calls.{ScanState, SeatState, IsFresh, AreOpened}
use Rattle.block_claim.specs.Opening.{undealt, AreDealt}
use Rattle.block_claim.proofs.Lists.{sum_snoc}
use Rattle.block_claim.proofs.Opening.{MaySplit}

range_split : (a n : ℕ) → 0 < n → (range_with_len a n ≡ a ∷ range_with_len (a + 1) (n - 1))
range_split a zero some = absurd (omega arith)
range_split a (suc n) some = ap (λ (k : ℕ). a ∷ range_with_len (a + 1) k) (omega arith)

module _ (scan : ScanState) (worker : ℕ) where
  workers_are : worker < scan.seats → range_with_len worker (scan.seats - worker) ≡ worker ∷ range_with_len (worker + 1) (scan.seats - (worker + 1))
  workers_are below = range_split worker (scan.seats - worker) (omega arith) ∙ ap (λ (k : ℕ). worker ∷ range_with_len (worker + 1) k) (omega arith)

  pub may_split : worker + 1 < scan.seats → scan.seats ≤ 32 → MaySplit (undealt scan worker)
  may_split below few =
      let e = workers_are (omega arith) in record {
        workers = subst (λ (ws : List ℕ). ws ≡ first_worker ws ∷ other_workers ws) (sym e) refl;
        share = omega arith;
        claims = refl;
        reports = refl;
      }

  pub left_is : worker < scan.seats → left_over (undealt scan worker) ≡ undealt scan (worker + 1)
  left_is below =
      let e : other_workers (range_with_len worker (scan.seats - worker)) ≡ range_with_len (worker + 1) (scan.seats - (worker + 1)) = ap other_workers (workers_are below) in
      let s : whole_share - worker * seat_share - seat_share ≡ whole_share - (worker + 1) * seat_share = omega arith in
      ap (λ (ws : List ℕ). record { blocks = scan.blocks; seats = scan.seats; workers = ws; share = whole_share - worker * seat_share - seat_share; claims = []; reports = []; seen = unreported }) e
      ∙ ap (λ (k : ℕ). record { blocks = scan.blocks; seats = scan.seats; workers = range_with_len (worker + 1) (scan.seats - (worker + 1)); share = k; claims = []; reports = []; seen = unreported }) s

  pub handed_fresh : (v : View) → v ≡ handed_out (undealt scan worker) → worker < scan.seats → scan.seats ≤ 32 → scan.blocks ≤ 2 ^ 20 → IsFreshView worker scan.blocks v
  handed_fresh v is below few small = subst (λ (u : View). IsFreshView worker scan.blocks u) (sym is) (record {
    blocks_are = refl;
    blocks_limit = small;
    seats = few;
    workers = ap (λ (ws : List ℕ). first_worker ws ∷ []) (workers_are below);
    share = omega arith;
    claims = refl;
    reports = refl;
    seen = refl;
  })

  -- the last number has what is left
  pub last_fresh : (v : View) → v ≡ undealt scan worker → worker + 1 ≡ scan.seats → scan.seats ≤ 32 → scan.blocks ≤ 2 ^ 20 → IsFreshView worker scan.blocks v
  last_fresh v is last few small = subst (λ (u : View). IsFreshView worker scan.blocks u) (sym is) (record {
    blocks_are = refl;
    blocks_limit = small;
    seats = few;
    workers = workers_are (omega arith) ∙ ap (λ (k : ℕ). worker ∷ range_with_len (worker + 1) k) (let z : scan.seats - (worker + 1) ≡ 0 = omega arith in z);
    share = omega arith;
    claims = refl;
    reports = refl;
    seen = refl;
  })

  pub fresh_seat : (seat : SeatState) → seat.table ≡ scan.table → seat.worker ≡ worker → seat.view.seats ≡ scan.seats → IsFreshView worker scan.blocks seat.view → IsFresh scan worker seat
  fresh_seat seat table number seats fresh = record {
    of_scan = record { table = table; blocks = fresh.blocks_are; seats = seats };
    number = number;
    alone = fresh.workers;
    claims = fresh.claims;
    reports = fresh.reports;
    seen = fresh.seen;
  }

  each_from : (seat : SeatState) → IsFresh scan worker seat → (xs : List SeatState) (from : ℕ) → from + length xs ≡ worker → ((j : ℕ) (e : SeatState) → j < length xs → IsFresh scan (from + j) (get_or xs j e))
      → (j : ℕ) (d : SeatState) → j < length (xs ++ seat ∷ []) → IsFresh scan (from + j) (get_or (xs ++ seat ∷ []) j d)
  each_from seat fresh [] from all h zero d less = let same : worker ≡ from + 0 = omega arith in subst (λ (k : ℕ). IsFresh scan k seat) same fresh
  each_from seat fresh [] from all h (suc j) d less = absurd (omega arith)
  each_from seat fresh (x ∷ xs) from all h zero d less = h 0 d (omega arith)
  each_from seat fresh (x ∷ xs) from all h (suc j) d less =
      let same : (k : ℕ) → (from + 1) + k ≡ from + suc k = λ k. omega arith in
      subst (λ (k : ℕ). IsFresh scan k (get_or (xs ++ seat ∷ []) j d)) (same j)
      (each_from seat fresh xs (from + 1) (omega arith) (λ k e b. subst (λ (m : ℕ). IsFresh scan m (get_or xs k e)) (sym (same k)) (h (suc k) e (omega arith))) j d (omega arith))

  each_snoc : (seats : List SeatState) (seat : SeatState) → length seats ≡ worker → ((i : ℕ) (d : SeatState) → i < length seats → IsFresh scan i (get_or seats i d)) → IsFresh scan worker seat
      → (i : ℕ) (d : SeatState) → i < length (seats ++ seat ∷ []) → IsFresh scan i (get_or (seats ++ seat ∷ []) i d)
  each_snoc seats seat count each fresh i d below =
      let zero_add : (k : ℕ) → 0 + k ≡ k = λ k. omega arith in
      subst (λ (k : ℕ). IsFresh scan k (get_or (seats ++ seat ∷ []) i d)) (zero_add i)
      (each_from seat fresh seats 0 (zero_add (length seats) ∙ count) (λ k e b. subst (λ (m : ℕ). IsFresh scan m (get_or seats k e)) (sym (zero_add k)) (each k e b)) i d below)

  pub dealt_more : (seats more : List SeatState) (seat : SeatState) → more ≡ seats ++ seat ∷ [] → AreDealt scan worker seats → IsFresh scan worker seat → seat.view.share ≡ seat_share → AreDealt scan (worker + 1) more
  dealt_more seats more seat is dealt fresh share = subst (λ (xs : List SeatState). AreDealt scan (worker + 1) xs) (sym is) (record {
    count = (let c = dealt.count in omega (arith, length-append seats (seat ∷ [])));
    each = each_snoc seats seat dealt.count dealt.each fresh;
    share = (let s = dealt.share in omega (arith, sum_snoc (λ (x : SeatState). x.view.share) seats seat));
  })

  -- what holds of each place holds of each seat that is read there
  each_read : (seats : List SeatState) → ((i : ℕ) (d : SeatState) → i < length seats → IsFresh scan i (get_or seats i d))
      → (i : ℕ) (seat : SeatState) → slice_get seats i ≡ Some seat → IsFresh scan i seat
  each_read seats each i seat is =
      subst (λ (s : SeatState). IsFresh scan i s) (get_or_from_slice_get seats i seat seat is) (each i seat (slice_get_within seats i seat is))

  pub dealt_all : (seats more : List SeatState) (seat : SeatState) → more ≡ seats ++ seat ∷ [] → AreDealt scan worker seats → IsFresh scan worker seat → worker + 1 ≡ scan.seats → scan.seats ≤ 32
      → seat.view.share ≡ whole_share - worker * seat_share → AreOpened scan more
  dealt_all seats more seat is dealt fresh last few share = subst (λ (xs : List SeatState). AreOpened scan xs) (sym is) (record {
    count = (let c = dealt.count in omega (arith, length-append seats (seat ∷ [])));
    each = each_read (seats ++ seat ∷ []) (each_snoc seats seat dealt.count dealt.each fresh);
    share = (let s = dealt.share in omega (arith, sum_snoc (λ (x : SeatState). x.view.share) seats seat));
  })
