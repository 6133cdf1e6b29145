-- A join keeps the rule.
use Rattle.std.proofs.Common.{◌≡◌, ◌≢◌, inl, inr, ℕ, ◌+◌, ◌<◌, ◌≤◌, eqb, cond, List, [], ◌++◌, set, sum_by, All, Contains, sym, refl, subst, ◌∙◌, append-nil, length-append, arith}
use mathlib.Core.Option.{some}
use lib.ListN.{get_elem?}
use Rattle.std.proofs.lemmas.List.Sums.{sum_by-append}
use Rattle.std.proofs.lemmas.List.Elements.{All-append, All-set, filter-append, Contains-append_left, Contains-append_right}
use Rattle.std.proofs.lemmas.Bool.{cases_lt}
use Rattle.atomic_table.proofs.Lists.{set_else}
use Rattle.block_claim.specs.declared.claim.Claim.{Claim}
use Rattle.block_claim.specs.declared.view.View.{View}
use Rattle.block_claim.specs.declared.view.Extent.{Extent}
use Rattle.block_claim.specs.Ramp.{FollowsRamp, ramp_at_start, claims_by}
use Rattle.block_claim.specs.Legal.{AscendsByFirst, times_claimed, numbers_of, lies_in}
use Rattle.block_claim.specs.Views.{times, joined, spent}
use Rattle.block_claim.specs.Rule.{IsSpent, KeepsToTheRamp, Keeps, least_report}
use Rattle.block_claim.proofs.Lists.{all_to, sum_set, sum_two, set_at, times_in}
use Rattle.block_claim.proofs.Ramps.{claims_none_by}
use Rattle.block_claim.proofs.Floors.{least_set, least_part, least_append, least_report_top}
use Rattle.block_claim.proofs.Whole.{once_most, ramp_at, same_scan, seen_at}

-- a worker that isn't among a view's has no claim there
pub none_by : (worker : ℕ) (workers : List ℕ) (claims : List Claim) → All (λ c. Contains workers c.worker) claims → times worker workers ≤ 0 → claims_by worker claims ≡ []
none_by worker workers claims own none = claims_none_by worker claims (all_to (λ (c : Claim). Contains workers c.worker) (λ (c : Claim). c.worker ≢ worker) claims
    (λ c there same. let one = times_in worker workers (subst (λ (w : ℕ). Contains workers w) same there) in omega arith) own)

-- what holds of a worker's claims in each of two views that share no worker holds of its claims in both together
pub by_either : (worker : ℕ) (v w : View) (P : List Claim → Type 0) → times worker v.workers + times worker w.workers ≤ 1
    → All (λ c. Contains v.workers c.worker) v.claims → All (λ c. Contains w.workers c.worker) w.claims
    → P (claims_by worker v.claims) → P (claims_by worker w.claims) → P (claims_by worker (v.claims ++ w.claims))
by_either worker v w P once own own' p q =
    subst P (sym (filter-append (λ (c : Claim). eqb c.worker worker) v.claims w.claims))
    (elim (cases_lt 0 (times worker v.workers)) as (λ _. P (claims_by worker v.claims ++ claims_by worker w.claims)) [
      | inl here ↦ rw (none_by worker w.workers w.claims own' (omega arith), append-nil) p
      | inr none ↦ rw (none_by worker v.workers v.claims own (omega arith)) q
    ])

module _ (scan : Extent) (next floor : ℕ) (views : List View) (keeps : Keeps scan next floor views) (i : ℕ) (v : View) (at : get_elem? views i ≡ some v)
    (j : ℕ) (w : View) (apart : j ≡ i → ⊥) (there : get_elem? (set views i (joined v w)) j ≡ some w) (shared : 0 < v.share) where
  at_other : get_elem? views j ≡ some w
  at_other = sym (set_else views i j (joined v w) apart) ∙ there

  abbrev after : List View
  after = set (set views i (joined v w)) j spent

  at_joined : get_elem? after i ≡ some (joined v w)
  at_joined = set_else (set views i (joined v w)) j i spent (λ same. apart (sym same)) ∙ set_at views i v (joined v w) at

  -- a sum of what both have together is as before
  sum_same : (f : View → ℕ) → f (joined v w) ≡ f v + f w → f spent ≡ 0 → sum_by f after ≡ sum_by f views
  sum_same f both none =
      let a = sum_set f views i v (joined v w) at in
      let b = sum_set f (set views i (joined v w)) j w spent there in
      omega arith

  ramp_v : KeepsToTheRamp scan v
  ramp_v = ramp_at scan next floor views keeps i v at

  ramp_w : KeepsToTheRamp scan w
  ramp_w = ramp_at scan next floor views keeps j w at_other

  workers_apart : (worker : ℕ) → times worker v.workers + times worker w.workers ≤ 1
  workers_apart worker =
      let two = sum_two (λ (u : View). times worker u.workers) views i j v w apart at at_other in
      let all = keeps.numbers worker in
      let one = once_most worker scan.seats in
      omega arith

  ramp_joined : KeepsToTheRamp scan (joined v w)
  ramp_joined = record {
    room = (let a = ramp_v.room in let b = ramp_w.room in omega (arith, length-append v.claims w.claims));
    sizes = All-append (λ (c : Claim). (1 ≤ c.size) × (c.size ≤ 8192)) v.claims w.claims ramp_v.sizes ramp_w.sizes;
    workers = All-append (λ (c : Claim). Contains (v.workers ++ w.workers) c.worker) v.claims w.claims
        (all_to (λ (c : Claim). Contains v.workers c.worker) (λ (c : Claim). Contains (v.workers ++ w.workers) c.worker) v.claims (λ c here. Contains-append_left v.workers w.workers c.worker here) ramp_v.workers)
        (all_to (λ (c : Claim). Contains w.workers c.worker) (λ (c : Claim). Contains (v.workers ++ w.workers) c.worker) w.claims (λ c here. Contains-append_right v.workers w.workers c.worker here) ramp_w.workers);
    ramp = λ worker. by_either worker v w (λ cs. FollowsRamp scan.blocks (ramp_at_start scan.blocks) cs) (workers_apart worker) ramp_v.workers ramp_w.workers (ramp_v.ramp worker) (ramp_w.ramp worker);
    ascending = λ worker. by_either worker v w AscendsByFirst (workers_apart worker) ramp_v.workers ramp_w.workers (ramp_v.ascending worker) (ramp_w.ascending worker);
  }

  ramp_spent : KeepsToTheRamp scan spent
  ramp_spent = record {
    room = omega arith;
    sizes = λ k d below. absurd (omega arith);
    workers = λ k d below. absurd (omega arith);
    ramp = λ worker. tt;
    ascending = λ worker i j d less below. absurd (omega arith);
  }

  least_after : least_report after ≡ least_report views
  least_after =
      let a = least_set views i v (joined v w) at in
      let b = least_set (set views i (joined v w)) j w spent there in
      let both = least_append v.reports w.reports in
      let part = least_part views i v at in
      let part' = least_part views j w at_other in
      let mine = least_part (set views i (joined v w)) i (joined v w) (set_at views i v (joined v w) at) in
      let mine' = least_part after i (joined v w) at_joined in
      let top = least_report_top views in
      omega arith

  pub join_keeps : Keeps scan next floor (set (set views i (joined v w)) j spent)
  join_keeps = record {
    shares = record {
      whole = (let same = sum_same (λ (u : View). u.share) refl refl in same ∙ keeps.shares.whole);
      spent = All-set (λ (u : View). u.share ≡ 0 → IsSpent u) (set views i (joined v w)) j spent (λ none. record { workers = refl; claims = refl; reports = refl; seen = refl })
          (All-set (λ (u : View). u.share ≡ 0 → IsSpent u) views i (joined v w) (λ none. absurd (omega arith)) keeps.shares.spent);
      same = All-set (λ (u : View). 0 < u.share → (u.blocks ≡ scan.blocks) × (u.seats ≡ scan.seats)) (set views i (joined v w)) j spent (λ some. absurd (omega arith))
          (All-set (λ (u : View). 0 < u.share → (u.blocks ≡ scan.blocks) × (u.seats ≡ scan.seats)) views i (joined v w) (λ more. same_scan scan next floor views keeps i v at shared) keeps.shares.same);
    };
    numbers = λ worker. sum_same (λ (u : View). times worker u.workers) (sum_by-append (λ (x : ℕ). cond (eqb x worker) 1 0) v.workers w.workers) refl ∙ keeps.numbers worker;
    ramp = All-set (KeepsToTheRamp scan) (set views i (joined v w)) j spent ramp_spent (All-set (KeepsToTheRamp scan) views i (joined v w) ramp_joined keeps.ramp);
    tiles = record {
      sum = keeps.tiles.sum ∙ sym (sum_same (λ (u : View). numbers_of u.claims) (sum_by-append (λ (c : Claim). c.size) v.claims w.claims) refl);
      once = λ n. sum_same (λ (u : View). times_claimed n u.claims) (sum_by-append (λ (c : Claim). cond (lies_in n c) 1 0) v.claims w.claims) refl ∙ keeps.tiles.once n;
    };
    least = record {
      least = keeps.least.least ∙ sym least_after;
      seen = All-set (λ (u : View). floor ≤ u.seen) (set views i (joined v w)) j spent (let top = least_report_top views in let least = keeps.least.least in omega arith)
          (All-set (λ (u : View). floor ≤ u.seen) views i (joined v w) (let a = seen_at scan next floor views keeps i v at in let b = seen_at scan next floor views keeps j w at_other in omega arith) keeps.least.seen);
    };
  }
