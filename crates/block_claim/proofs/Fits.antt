-- The fields of a seat after each of its steps.
use Rattle.std.proofs.Common.{◌≡◌, ℕ, ◌+◌, ◌-◌, ◌≤◌, min, eqb, ltb, Bool, true, false, cond, List, [], ◌∷◌, ◌++◌, All, Contains, sym, refl, ap, subst, ◌∙◌, ⊎_elim, append-nil, arith}
use Rattle.std.proofs.lemmas.List.Elements.{All-append, filter-append, Contains-append_left, Contains-append_right, Contains-append_cases}
use Rattle.std.proofs.lemmas.List.Sums.{sum_by-append}
use Rattle.std.proofs.lemmas.Bool.Decides.{nat_tests}
use Rattle.atomic_table.specs.Table.{Me}
use Rattle.block_claim.specs.declared.claim.Claim.{Claim}
use Rattle.block_claim.specs.declared.view.View.{View}
use Rattle.block_claim.specs.Ramp.{Ramp, chunk_at_start, ramp_at_start, next_chunk, after_claim, ramp_of, claims_by, claim_at}
use Rattle.block_claim.specs.Legal.{IsLegalInSomeOrder}
use Rattle.block_claim.specs.Views.{times, least_of, unreported, whole_share, seat_share, first_worker, with_claim, joined, AllDone, KnowsTheScan, IsFreshView}
use Rattle.block_claim.specs.Seats.{IsViewOf, FieldsFit}
use Rattle.block_claim.proofs.Lists.{all_one, all_to, times_in}
use Rattle.block_claim.proofs.Ramps.{ramp_snoc, start_in_range, ramp_in_range, next_in_range}
use Rattle.block_claim.proofs.Whole.{all_in}
use Rattle.block_claim.proofs.Claiming.{MayClaimAs}
use Rattle.block_claim.proofs.Joining.{none_by}

-- what holds of all holds of each that is in the list
pub all_has : {A : Type 0} (P : A → Type 0) (xs : List A) (x : A) → All P xs → Contains xs x → P x
all_has P xs x h there = subst P there.2 (h there.0 x there.1)

-- a fresh view knows nothing that it would have to show
pub fresh_view : (worker blocks : ℕ) (v : View) → IsFreshView worker blocks v → IsViewOf worker false v
fresh_view worker blocks v fresh = record {
  blocks = (let a = fresh.blocks_are in let b = fresh.blocks_limit in omega arith);
  seats = fresh.seats;
  share = (let s = fresh.share in omega arith);
  worker_in = subst (λ (ws : List ℕ). Contains ws worker) (sym fresh.workers) (0, omega arith, refl);
  own = subst (λ (cs : List Claim). All (λ c. Contains v.workers c.worker) cs) (sym fresh.claims) (λ k d below. absurd (omega arith));
  alone = λ going. (fresh.workers, fresh.share);
  all_done = λ done. absurd (cc);
  knows = record {
    seen = λ whole. (let none : least_of v.reports ≡ unreported = ap least_of fresh.reports in let seen = fresh.seen in omega arith);
    legal = λ whole done. absurd (
        let mine = all_has (λ (w : ℕ). (ramp_of v.blocks (claims_by w v.claims)).done ≡ true) v.workers worker done (subst (λ (ws : List ℕ). Contains ws worker) (sym fresh.workers) (0, omega arith, refl)) in
        let none : (ramp_of v.blocks (claims_by worker v.claims)).done ≡ false = ap (λ (cs : List Claim). (ramp_of v.blocks (claims_by worker cs)).done) fresh.claims in
        cc);
  };
}

pub fresh_fits : (me : Me (Unit {0}) View) (worker blocks chunk room : ℕ) → IsFreshView worker blocks me.0 → me.1 ≡ [] → chunk ≡ chunk_at_start blocks → blocks + 32 ≤ room → FieldsFit me worker chunk 0 false unreported [] room
fresh_fits me worker blocks chunk room fresh none first large =
    let start : ramp_at_start blocks ≡ ramp_of me.0.blocks (claims_by worker me.0.claims) =
    sym (ap (λ (cs : List Claim). ramp_of me.0.blocks (claims_by worker cs)) fresh.claims ∙ ap ramp_at_start fresh.blocks_are) in record {
      no_slot = none;
      claims_are = sym fresh.claims;
      room_is = (let same = fresh.blocks_are in omega arith);
      chunk_is = first ∙ ap (λ (r : Ramp). r.chunk) start;
      last_is = ap (λ (r : Ramp). r.last) start;
      done_is = ap (λ (r : Ramp). r.done) start;
      seen_is = sym fresh.seen;
      view_is = fresh_view worker blocks me.0 fresh;
    }

after_chunk : (b : ℕ) (r : Ramp) (first : ℕ) → (after_claim b r first).chunk ≡ next_chunk b r
unfolding after_claim
after_chunk b r first = refl

after_last : (b : ℕ) (r : Ramp) (first : ℕ) → (after_claim b r first).last ≡ cond (ltb b (first + next_chunk b r)) r.last (first + next_chunk b r - 1)
unfolding after_claim
after_last b r first = refl

after_done : (b : ℕ) (r : Ramp) (first : ℕ) → (after_claim b r first).done ≡ ltb b (first + next_chunk b r)
unfolding after_claim
after_done b r first = refl

-- the next chunk goes by the chunk and the last number
chunk_by : (b : ℕ) (r : Ramp) → next_chunk b (record { chunk = r.chunk; last = r.last; done = false }) ≡ next_chunk b r
unfolding next_chunk
chunk_by b r = refl

module _ (me : Me (Unit {0}) View) (worker chunk last : ℕ) (done : Bool) (seen : ℕ) (claims : List Claim) (room : ℕ) (fits : FieldsFit me worker chunk last done seen claims room) where
  abbrev v : View
  v = me.0

  abbrev r : Ramp
  r = ramp_of v.blocks (claims_by worker v.claims)

  -- a seat that isn't done has room for one claim more
  module _ (going : done ≡ false) (found : ℕ) (next : ℕ) (size : next ≡ next_chunk v.blocks (record { chunk = chunk; last = last; done = false })) where
    abbrev c : Claim
    c = claim_at v.blocks worker v.claims found

    pub next_size : next ≡ next_chunk v.blocks r
    next_size = size ∙ (ap (λ (k : ℕ). next_chunk v.blocks (record { chunk = k; last = last; done = false })) fits.chunk_is
        ∙ (ap (λ (k : ℕ). next_chunk v.blocks (record { chunk = r.chunk; last = k; done = false })) fits.last_is ∙ chunk_by v.blocks r))

    alone : (v.workers ≡ worker ∷ []) × (seat_share ≤ v.share)
    alone = fits.view_is.alone going

    pub mine : first_worker v.workers ≡ worker
    mine = ap first_worker alone.0

    one_more : claims_by worker (c ∷ []) ≡ c ∷ []
    one_more = let same : eqb worker worker ≡ true = grind (arith, nat_tests) in rw same refl

    own_more : claims_by worker (v.claims ++ c ∷ []) ≡ claims_by worker v.claims ++ c ∷ []
    own_more = filter-append (λ (x : Claim). eqb x.worker worker) v.claims (c ∷ []) ∙ ap (λ (cs : List Claim). claims_by worker v.claims ++ cs) one_more

    ramp_after : ramp_of v.blocks (claims_by worker (v.claims ++ c ∷ [])) ≡ after_claim v.blocks r found
    ramp_after = ap (ramp_of v.blocks) own_more ∙ ramp_snoc v.blocks (ramp_at_start v.blocks) (claims_by worker v.claims) c

    pub may_claim : MayClaimAs worker v
    may_claim = record { alone = alone.0; share = alone.1; blocks = fits.view_is.blocks; going = sym fits.done_is ∙ going }

    pub some_next : 1 ≤ next
    some_next =
        let range = next_in_range v.blocks r (ramp_in_range v.blocks (ramp_at_start v.blocks) (claims_by worker v.claims) (start_in_range v.blocks)) in
        let size' = next_size in
        omega arith

    module _ (after : Me (Unit {0}) View) (step : after ≡ (with_claim v (claim_at v.blocks (first_worker v.workers) v.claims found), me.1)) (knows : KnowsTheScan after.0) where
      after_is : after ≡ (with_claim v c, me.1)
      after_is = step ∙ ap (λ (w : ℕ). (with_claim v (claim_at v.blocks w v.claims found), me.1)) mine

      fits_here : (last' : ℕ) (done' : Bool) → done' ≡ ltb v.blocks (found + next) → last' ≡ cond done' last (found + next - 1)
          → FieldsFit (with_claim v c, me.1) worker next last' done' seen (claims ++ record { worker = worker; first = found; size = next } ∷ []) room
      fits_here last' done' ends lasts =
          let size' = next_size in
          let done'' : done' ≡ (ramp_of v.blocks (claims_by worker (v.claims ++ c ∷ []))).done =
          ends ∙ (ap (λ (k : ℕ). ltb v.blocks (found + k)) size' ∙ (sym (after_done v.blocks r found) ∙ sym (ap (λ (x : Ramp). x.done) ramp_after))) in
          let test : ltb v.blocks (found + next_chunk v.blocks r) ≡ done' = sym (ends ∙ ap (λ (k : ℕ). ltb v.blocks (found + k)) size') in record {
            no_slot = fits.no_slot;
            claims_are = ap (λ (cs : List Claim). cs ++ record { worker = worker; first = found; size = next } ∷ []) fits.claims_are ∙ ap (λ (k : ℕ). v.claims ++ record { worker = worker; first = found; size = k } ∷ []) size';
            room_is = fits.room_is;
            chunk_is = size' ∙ (sym (after_chunk v.blocks r found) ∙ sym (ap (λ (x : Ramp). x.chunk) ramp_after));
            last_is = lasts ∙ (ap (λ (k : ℕ). cond done' k (found + next - 1)) fits.last_is
                ∙ (ap (λ (k : ℕ). cond done' r.last (found + k - 1)) size'
                ∙ (ap (λ (b : Bool). cond b r.last (found + next_chunk v.blocks r - 1)) (sym test)
                ∙ (sym (after_last v.blocks r found) ∙ sym (ap (λ (x : Ramp). x.last) ramp_after)))));
            done_is = done'';
            seen_is = fits.seen_is;
            view_is = record {
              blocks = fits.view_is.blocks;
              seats = fits.view_is.seats;
              share = fits.view_is.share;
              worker_in = fits.view_is.worker_in;
              own = All-append (λ (x : Claim). Contains v.workers x.worker) v.claims (c ∷ []) fits.view_is.own (all_one (λ (x : Claim). Contains v.workers x.worker) c fits.view_is.worker_in);
              alone = λ h. alone;
              all_done = λ h. subst (λ (ws : List ℕ). All (λ w. (ramp_of v.blocks (claims_by w (v.claims ++ c ∷ []))).done ≡ true) ws) (sym alone.0) (all_one (λ (w : ℕ). (ramp_of v.blocks (claims_by w (v.claims ++ c ∷ []))).done ≡ true) worker (sym done'' ∙ h));
              knows = subst (λ (m : Me (Unit {0}) View). KnowsTheScan m.0) after_is knows;
            };
          }

      pub claimed_fits : (last' : ℕ) (done' : Bool) → done' ≡ ltb v.blocks (found + next) → last' ≡ cond done' last (found + next - 1)
          → FieldsFit after worker next last' done' seen (claims ++ record { worker = worker; first = found; size = next } ∷ []) room
      claimed_fits last' done' ends lasts = subst (λ (m : Me (Unit {0}) View). FieldsFit m worker next last' done' seen (claims ++ record { worker = worker; first = found; size = next } ∷ []) room) (sym after_is) (fits_here last' done' ends lasts)

      -- the same, in the numbers that the code has
      pub told_fits : (last' blocks' size' : ℕ) (claims' : List Claim) (room' : ℕ) → blocks' ≡ v.blocks → size' ≡ next → claims' ≡ claims ++ record { worker = worker; first = found; size = next } ∷ [] → room' ≡ room
          → last' ≡ cond (ltb blocks' (found + size')) last (found + size' - 1) → FieldsFit after worker next last' (ltb blocks' (found + size')) seen claims' room'
      told_fits last' blocks' size' claims' room' blocks_are size_is claims_are room_is lasts =
          let ends : ltb blocks' (found + size') ≡ ltb v.blocks (found + next) = ap (λ (b : ℕ). ltb b (found + size')) blocks_are ∙ ap (λ (k : ℕ). ltb v.blocks (found + k)) size_is in
          let lasts' = lasts ∙ ap (λ (k : ℕ). cond (ltb blocks' (found + size')) last (found + k - 1)) size_is in
          subst (λ (cs : List Claim). FieldsFit after worker next last' (ltb blocks' (found + size')) seen cs room') (sym claims_are)
          (subst (λ (k : ℕ). FieldsFit after worker next last' (ltb blocks' (found + size')) seen (claims ++ record { worker = worker; first = found; size = next } ∷ []) k) (sym room_is)
          (claimed_fits last' (ltb blocks' (found + size')) ends lasts'))

  -- a seat that is done and has the whole share knows that its claims are legal
  pub legal_by : v.share ≡ whole_share → (ramp_of v.blocks (claims_by worker v.claims)).done ≡ true → IsLegalInSomeOrder v.blocks v.seats v.claims
  legal_by whole ended = fits.view_is.knows.legal whole (fits.view_is.all_done (fits.done_is ∙ ended))

  -- other reports and another number seen
  pub noted_fits : (after : Me (Unit {0}) View) (reports : List ℕ) (seen' : ℕ) → after ≡ (record v { reports = reports; seen = seen' }, me.1) → KnowsTheScan after.0 → FieldsFit after worker chunk last done seen' claims room
  noted_fits after reports seen' step knows = subst (λ (m : Me (Unit {0}) View). FieldsFit m worker chunk last done seen' claims room) (sym step) (record {
    no_slot = fits.no_slot;
    claims_are = fits.claims_are;
    room_is = fits.room_is;
    chunk_is = fits.chunk_is;
    last_is = fits.last_is;
    done_is = fits.done_is;
    seen_is = refl;
    view_is = record {
      blocks = fits.view_is.blocks;
      seats = fits.view_is.seats;
      share = fits.view_is.share;
      worker_in = fits.view_is.worker_in;
      own = fits.view_is.own;
      alone = fits.view_is.alone;
      all_done = fits.view_is.all_done;
      knows = subst (λ (m : Me (Unit {0}) View). KnowsTheScan m.0) step knows;
    };
  })

  -- with a seat that was joined into it
  module _ (is_done : done ≡ true) (other : Me (Unit {0}) View) (worker' chunk' last' : ℕ) (done' : Bool) (seen' : ℕ) (claims' : List Claim) (room' : ℕ) (fits' : FieldsFit other worker' chunk' last' done' seen' claims' room') (is_done' : done' ≡ true)
      (same : other.0.blocks ≡ v.blocks) (once : (n : ℕ) → times n (v.workers ++ other.0.workers) ≤ 1) where
    abbrev w : View
    w = other.0

    once_both : (n : ℕ) → times n v.workers + times n w.workers ≤ 1
    once_both n =
        let o = once n in
        let s = sum_by-append (λ (x : ℕ). cond (eqb x n) 1 0) v.workers w.workers in
        omega arith

    by_first : (n : ℕ) → Contains v.workers n → claims_by n (v.claims ++ w.claims) ≡ claims_by n v.claims
    by_first n here =
        let one = times_in n v.workers here in
        let both = once_both n in
        filter-append (λ (x : Claim). eqb x.worker n) v.claims w.claims
        ∙ (ap (λ (cs : List Claim). claims_by n v.claims ++ cs) (none_by n w.workers w.claims fits'.view_is.own (omega arith)) ∙ append-nil (claims_by n v.claims))

    by_second : (n : ℕ) → Contains w.workers n → claims_by n (v.claims ++ w.claims) ≡ claims_by n w.claims
    by_second n here =
        let one = times_in n w.workers here in
        let both = once_both n in
        filter-append (λ (x : Claim). eqb x.worker n) v.claims w.claims
        ∙ ap (λ (cs : List Claim). cs ++ claims_by n w.claims) (none_by n v.workers v.claims fits.view_is.own (omega arith))

    pub joined_ramp : ramp_of v.blocks (claims_by worker (v.claims ++ w.claims)) ≡ ramp_of v.blocks (claims_by worker v.claims)
    joined_ramp = ap (ramp_of v.blocks) (by_first worker fits.view_is.worker_in)

    all_done : AllDone (joined v w)
    all_done = all_in (λ (n : ℕ). (ramp_of v.blocks (claims_by n (v.claims ++ w.claims))).done ≡ true) (v.workers ++ w.workers) (λ n there.
        ⊎_elim
        (λ here. ap (λ (cs : List Claim). (ramp_of v.blocks cs).done) (by_first n here) ∙ all_has (λ (m : ℕ). (ramp_of v.blocks (claims_by m v.claims)).done ≡ true) v.workers n (fits.view_is.all_done is_done) here)
        (λ here. ap (λ (cs : List Claim). (ramp_of v.blocks cs).done) (by_second n here)
        ∙ (ap (λ (b : ℕ). (ramp_of b (claims_by n w.claims)).done) (sym same) ∙ all_has (λ (m : ℕ). (ramp_of w.blocks (claims_by m w.claims)).done ≡ true) w.workers n (fits'.view_is.all_done is_done') here))
        (Contains-append_cases v.workers w.workers n there))

    pub joined_fits : (after : Me (Unit {0}) View) (more : ℕ) → after ≡ (joined v w, me.1) → KnowsTheScan after.0 → room ≤ more → FieldsFit after worker chunk last done (min seen seen') (claims ++ claims') more
    joined_fits after more step knows grown = subst (λ (m : Me (Unit {0}) View). FieldsFit m worker chunk last done (min seen seen') (claims ++ claims') more) (sym step)
        (let own = by_first worker fits.view_is.worker_in in record {
          no_slot = fits.no_slot;
          claims_are = ap (λ (cs : List Claim). cs ++ claims') fits.claims_are ∙ ap (λ (cs : List Claim). v.claims ++ cs) fits'.claims_are;
          room_is = (let a = fits.room_is in omega arith);
          chunk_is = fits.chunk_is ∙ sym (ap (λ (cs : List Claim). (ramp_of v.blocks cs).chunk) own);
          last_is = fits.last_is ∙ sym (ap (λ (cs : List Claim). (ramp_of v.blocks cs).last) own);
          done_is = fits.done_is ∙ sym (ap (λ (cs : List Claim). (ramp_of v.blocks cs).done) own);
          seen_is = ap (λ (k : ℕ). min k seen') fits.seen_is ∙ ap (λ (k : ℕ). min v.seen k) fits'.seen_is;
          view_is = record {
            blocks = fits.view_is.blocks;
            seats = fits.view_is.seats;
            share = (let a = fits.view_is.share in omega arith);
            worker_in = Contains-append_left v.workers w.workers worker fits.view_is.worker_in;
            own = All-append (λ (x : Claim). Contains (v.workers ++ w.workers) x.worker) v.claims w.claims
                (all_to (λ (x : Claim). Contains v.workers x.worker) (λ (x : Claim). Contains (v.workers ++ w.workers) x.worker) v.claims (λ x here. Contains-append_left v.workers w.workers x.worker here) fits.view_is.own)
                (all_to (λ (x : Claim). Contains w.workers x.worker) (λ (x : Claim). Contains (v.workers ++ w.workers) x.worker) w.claims (λ x here. Contains-append_right v.workers w.workers x.worker here) fits'.view_is.own);
            alone = λ going. absurd (cc);
            all_done = λ h. all_done;
            knows = subst (λ (m : Me (Unit {0}) View). KnowsTheScan m.0) step knows;
          };
        })
