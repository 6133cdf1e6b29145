-- The first view alone meets the rule, and a split of a view with nothing claimed or reported keeps it.
use Rattle.std.proofs.Common.{◌≡◌, ℕ, zero, suc, ◌+◌, ◌<◌, ◌≤◌, ◌&&◌, eqb, ltb, leb, cond, List, [], ◌∷◌, ◌++◌, length, set, sum_by, All, Contains, sym, refl, ap, subst, ◌∙◌, arith}
use mathlib.Core.Option.{some}
use lib.ListN.{get_elem?}
use Rattle.std.specs.List.{range_with_len}
use Rattle.std.proofs.lemmas.List.Sums.{sum_by-cons}
use Rattle.std.proofs.lemmas.List.Elements.{All-append, All-set}
use Rattle.std.proofs.lemmas.Bool.Decides.{nat_tests}
use Rattle.block_claim.specs.declared.claim.Claim.{Claim}
use Rattle.block_claim.specs.declared.view.View.{View}
use Rattle.block_claim.specs.declared.view.Extent.{Extent}
use Rattle.block_claim.specs.Ramp.{FollowsRamp, ramp_at_start, claims_by}
use Rattle.block_claim.specs.Legal.{AscendsByFirst, times_claimed, numbers_of, once_below}
use Rattle.block_claim.specs.Views.{times, least_of, unreported, seat_share, first_worker, other_workers, view_at_start, handed_out, left_over}
use Rattle.block_claim.specs.Rule.{IsSpent, KeepsToTheRamp, Keeps, least_report}
use Rattle.block_claim.proofs.Lists.{all_one, sum_set, sum_snoc}
use Rattle.block_claim.proofs.Floors.{least_set, least_snoc, least_report_top}
use Rattle.block_claim.proofs.Whole.{same_scan, seen_at}

times_range : (w a n : ℕ) → times w (range_with_len a n) ≡ cond (leb a w && ltb w (a + n)) 1 0
times_range w a zero = grind (arith, nat_tests)
times_range w a (suc n) =
    let h = times_range w (a + 1) n in
    let s = sum_by-cons (λ (x : ℕ). cond (eqb x w) 1 0) a (range_with_len (a + 1) n) in
    let more = range_more w a n in
    omega arith
  where
    range_more : (w a n : ℕ) → cond (eqb a w) 1 0 + cond (leb (a + 1) w && ltb w ((a + 1) + n)) 1 0 ≡ cond (leb a w && ltb w (a + suc n)) 1 0
    range_more w a n = grind (arith, nat_tests)

pub times_first : (w n : ℕ) → times w (range_with_len 0 n) ≡ once_below w n
times_first w n =
    let h = times_range w 0 n in
    let same : cond (leb 0 w && ltb w (0 + n)) 1 0 ≡ once_below w n = grind (arith, nat_tests) in
    h ∙ same

-- a view without claims keeps to the ramp
pub fresh_ramp : (scan : Extent) (v : View) → v.claims ≡ [] → KeepsToTheRamp scan v
fresh_ramp scan v none = record {
  room = (let e : length v.claims ≡ 0 = ap length none in omega arith);
  sizes = subst (λ (cs : List Claim). All (λ c. (1 ≤ c.size) × (c.size ≤ 8192)) cs) (sym none) (λ k d below. absurd (omega arith));
  workers = subst (λ (cs : List Claim). All (λ c. Contains v.workers c.worker) cs) (sym none) (λ k d below. absurd (omega arith));
  ramp = λ w. subst (λ (cs : List Claim). FollowsRamp scan.blocks (ramp_at_start scan.blocks) (claims_by w cs)) (sym none) tt;
  ascending = λ w. subst (λ (cs : List Claim). AscendsByFirst (claims_by w cs)) (sym none) (λ i j d less below. absurd (omega arith));
}

never : (n : ℕ) → once_below n 0 ≡ 0
never n = grind (arith, nat_tests)

pub start_keeps : (scan : Extent) → Keeps scan 0 unreported (view_at_start scan ∷ [])
start_keeps scan = record {
  shares = record {
    whole = refl;
    spent = all_one (λ (u : View). u.share ≡ 0 → IsSpent u) (view_at_start scan) (λ none. absurd (omega arith));
    same = all_one (λ (u : View). 0 < u.share → (u.blocks ≡ scan.blocks) × (u.seats ≡ scan.seats)) (view_at_start scan) (λ some. (refl, refl));
  };
  numbers = λ w. (let s = sum_by-cons (λ (u : View). times w u.workers) (view_at_start scan) [] in let t = times_first w scan.seats in omega arith);
  ramp = all_one (KeepsToTheRamp scan) (view_at_start scan) (fresh_ramp scan (view_at_start scan) refl);
  tiles = record { sum = refl; once = λ n. sym (never n) };
  least = record { least = omega arith; seen = all_one (λ (u : View). unreported ≤ u.seen) (view_at_start scan) (omega arith) };
}

-- a view that may be split: it has two workers and more than a seat's share, and nothing claimed or reported
pub record MaySplit (v : View) : Type 0 where
  pub workers : v.workers ≡ first_worker v.workers ∷ other_workers v.workers
  pub share : seat_share < v.share
  pub claims : v.claims ≡ []
  pub reports : v.reports ≡ []

module _ (scan : Extent) (next floor : ℕ) (views : List View) (keeps : Keeps scan next floor views) (i : ℕ) (v : View) (at : get_elem? views i ≡ some v) (may : MaySplit v) where
  abbrev after : List View
  after = set views i (left_over v) ++ handed_out v ∷ []

  -- a sum of what was in one view is as before
  sum_same : (f : View → ℕ) → f (left_over v) + f (handed_out v) ≡ f v → sum_by f after ≡ sum_by f views
  sum_same f both =
      let a = sum_set f views i v (left_over v) at in
      let b = sum_snoc f (set views i (left_over v)) (handed_out v) in
      omega arith

  none_of : (f : List Claim → ℕ) → f [] ≡ 0 → f v.claims + f v.claims ≡ f v.claims
  none_of f none = let e : f v.claims ≡ f [] = ap f may.claims in omega arith

  both : (P : View → Type 0) → All P views → P (left_over v) → P (handed_out v) → All P after
  both P all left right = All-append P (set views i (left_over v)) (handed_out v ∷ []) (All-set P views i (left_over v) left all) (all_one P (handed_out v) right)

  least_after : least_report after ≡ least_report views
  least_after =
      let none : least_of v.reports ≡ unreported = ap least_of may.reports in
      let a = least_set views i v (left_over v) at in
      let b = least_snoc (set views i (left_over v)) (handed_out v) in
      let top = least_report_top views in
      let top' = least_report_top (set views i (left_over v)) in
      omega arith

  pub split_keeps : Keeps scan next floor (set views i (left_over v) ++ handed_out v ∷ [])
  split_keeps =
      let share = may.share in
      let shared : 0 < v.share = omega arith in
      let same = same_scan scan next floor views keeps i v at shared in record {
        shares = record {
          whole = sum_same (λ (u : View). u.share) (omega arith) ∙ keeps.shares.whole;
          spent = both (λ (u : View). u.share ≡ 0 → IsSpent u) keeps.shares.spent (λ none. absurd (omega arith)) (λ none. absurd (omega arith));
          same = both (λ (u : View). 0 < u.share → (u.blocks ≡ scan.blocks) × (u.seats ≡ scan.seats)) keeps.shares.same (λ some. same) (λ some. same);
        };
        numbers = λ w. sum_same (λ (u : View). times w u.workers)
            (let s = sum_by-cons (λ (x : ℕ). cond (eqb x w) 1 0) (first_worker v.workers) (other_workers v.workers) in
            let t = sum_by-cons (λ (x : ℕ). cond (eqb x w) 1 0) (first_worker v.workers) [] in
            let e : times w v.workers ≡ times w (first_worker v.workers ∷ other_workers v.workers) = ap (times w) may.workers in
            omega arith) ∙ keeps.numbers w;
        ramp = both (KeepsToTheRamp scan) keeps.ramp (fresh_ramp scan (left_over v) may.claims) (fresh_ramp scan (handed_out v) may.claims);
        tiles = record {
          sum = keeps.tiles.sum ∙ sym (sum_same (λ (u : View). numbers_of u.claims) (none_of numbers_of refl));
          once = λ n. sum_same (λ (u : View). times_claimed n u.claims) (none_of (times_claimed n) refl) ∙ keeps.tiles.once n;
        };
        least = record {
          least = keeps.least.least ∙ sym least_after;
          seen = both (λ (u : View). floor ≤ u.seen) keeps.least.seen (seen_at scan next floor views keeps i v at) (seen_at scan next floor views keeps i v at);
        };
      }
