-- Each step on the table of a scan, for the steps of `atomic_table`.
use Rattle.std.proofs.Common.{◌≡◌, ℕ, zero, suc, ◌+◌, ◌-◌, ◌%◌, ◌^◌, ◌<◌, ◌≤◌, min, Bool, false, List, [], ◌∷◌, ◌++◌, length, set, slice_index, slice_set, Contains, sym, refl, ap, subst, ◌∙◌, mod-eq_of_lt, arith}
use mathlib.Core.Option.{none}
use Rattle.atomic_table.specs.Table.{State, Me, step, keeps, opening, Allows, Splits, Joins}
use Rattle.block_claim.specs.declared.claim.Claim.{Claim}
use Rattle.block_claim.specs.declared.view.View.{View}
use Rattle.block_claim.specs.declared.view.Extent.{Extent}
use Rattle.block_claim.specs.Ramp.{ramp_of, next_chunk, claims_by, claim_at}
use Rattle.block_claim.specs.Views.{first_worker, view_at_start, handed_out, left_over, with_claim, with_seen, with_report, joined, spent, unreported}
use Rattle.block_claim.specs.Rule.{Keeps, IsKept}
use Rattle.block_claim.specs.Steps.{ClaimsFrom, LooksJoined, SeesFloor, Reports}
use Rattle.block_claim.proofs.Lists.{set_at}
use Rattle.block_claim.proofs.Ramps.{start_in_range, ramp_in_range, next_in_range}
use Rattle.block_claim.proofs.Whole.{knows, small_next, worker_once, few_in_view, same_scan, seen_at}
use Rattle.block_claim.proofs.Claiming.{MayClaimAs, claim_keeps}
use Rattle.block_claim.proofs.Joining.{join_keeps}
use Rattle.block_claim.proofs.Noting.{look_keeps, report_keeps}
use Rattle.block_claim.proofs.Opening.{start_keeps, MaySplit, split_keeps}

module _ (scan : Extent) where
  -- the rule where the first word changes, and where the second does
  first_word : (ws : List ℕ) (m : ℕ) (views : List View) → length ws ≡ 2 → Keeps scan m (slice_index ws 1) views → Keeps scan (slice_index (slice_set ws 0 m) 0) (slice_index (slice_set ws 0 m) 1) views
  first_word [] m views two k = absurd (omega arith)
  first_word (a ∷ []) m views two k = absurd (omega arith)
  first_word (a ∷ b ∷ ws) m views two k = k

  second_word : (ws : List ℕ) (m : ℕ) (views : List View) → length ws ≡ 2 → Keeps scan (slice_index ws 0) m views → Keeps scan (slice_index (slice_set ws 1 m) 0) (slice_index (slice_set ws 1 m) 1) views
  second_word [] m views two k = absurd (omega arith)
  second_word (a ∷ []) m views two k = absurd (omega arith)
  second_word (a ∷ b ∷ ws) m views two k = k

  length_set : (ws : List ℕ) (i m : ℕ) → length ws ≡ 2 → length (slice_set ws i m) ≡ 2
  length_set ws i m two = Rattle.std.proofs.Common.length-set ws i m ∙ two

  module _ {S : Type 0} where
    pub opens : IsKept {S = S} scan (opening (0 ∷ unreported ∷ []) [] (view_at_start scan))
    opens = record { words = refl; keeps = start_keeps scan }

    pub splits : (id : ℕ) (v : View) → MaySplit v → Splits {S = S} (λ s. IsKept scan s) id v (left_over v) (handed_out v)
    splits id v may s kept at = record { words = kept.words; keeps = split_keeps scan (slice_index s.words 0) (slice_index s.words 1) s.views kept.keeps id v at may }

    pub joins : (id : ℕ) (v : View) (other : ℕ) (w : View) → 0 < v.share → Joins {S = S} (λ s. IsKept scan s) id v other w (joined v w) spent
    joins id v other w shared s kept at apart there = record { words = kept.words; keeps = join_keeps scan (slice_index s.words 0) (slice_index s.words 1) s.views kept.keeps id v at other w apart there shared }

    pub claims : (slots id worker chunk : ℕ) (v : View) → MayClaimAs worker v → chunk ≡ next_chunk v.blocks (ramp_of v.blocks (claims_by worker v.claims))
        → Allows {S = S} (λ s. IsKept scan s) slots id (v, []) 0 (λ n. (n + chunk) % 2 ^ 64) (ClaimsFrom (step slots 0 chunk 0 none) (v, []))
    claims slots id worker chunk v may size s kept homes at word =
        let n = slice_index s.words 0 in
        let floor = slice_index s.words 1 in
        let c : Claim = claim_at v.blocks worker v.claims n in
        let k : Keeps scan (n + c.size) floor (slice_set s.views id (with_claim v c)) = claim_keeps scan n floor s.views kept.keeps id v at worker may in
        let small = small_next scan n floor s.views kept.keeps in
        let range = next_in_range v.blocks (ramp_of v.blocks (claims_by worker v.claims)) (ramp_in_range v.blocks _ (claims_by worker v.claims) (start_in_range v.blocks)) in
        let next : (n + chunk) % 2 ^ 64 ≡ n + c.size = mod-eq_of_lt (omega arith) ∙ ap (λ (m : ℕ). n + m) size in
        let mine : first_worker v.workers ≡ worker = ap first_worker may.alone in (
          with_claim v c,
          keeps,
          tt,
          record { words = length_set s.words 0 ((n + chunk) % 2 ^ 64) kept.words; keeps = first_word s.words ((n + chunk) % 2 ^ 64) (slice_set s.views id (with_claim v c)) kept.words (subst (λ (m : ℕ). Keeps scan m floor (slice_set s.views id (with_claim v c))) (sym next) k) },
          record {
            claim = ap (λ (w : ℕ). (with_claim v (claim_at v.blocks w v.claims n), [])) (sym mine);
            small = small;
            few = (let scan' = same_scan scan n floor s.views kept.keeps id v at (let share = may.share in omega arith) in
                let few = few_in_view scan (n + c.size) floor (slice_set s.views id (with_claim v c)) k id (with_claim v c) (set_at s.views id v (with_claim v c) at) in
                omega arith);
            knows = knows scan (n + c.size) floor (slice_set s.views id (with_claim v c)) k id (with_claim v c) (set_at s.views id v (with_claim v c) at);
          },
        )

    same_words : (s : State S View) → IsKept scan s → (w : View) (id : ℕ) → Keeps scan (slice_index s.words 0) (slice_index s.words 1) (slice_set s.views id w) → (i : ℕ) → IsKept {S = S} scan record { words = slice_set s.words i (slice_index s.words i); homes = s.homes; views = slice_set s.views id w }
    same_words s kept w id k i = record { words = length_set s.words i (slice_index s.words i) kept.words; keeps = go s.words kept.words k i }
      where
        go : (ws : List ℕ) → length ws ≡ 2 → Keeps scan (slice_index ws 0) (slice_index ws 1) (slice_set s.views id w) → (i : ℕ)
            → Keeps scan (slice_index (slice_set ws i (slice_index ws i)) 0) (slice_index (slice_set ws i (slice_index ws i)) 1) (slice_set s.views id w)
        go [] two k i = k
        go (a ∷ []) two k i = absurd (omega arith)
        go (a ∷ b ∷ ws) two k zero = k
        go (a ∷ b ∷ ws) two k (suc zero) = k
        go (a ∷ b ∷ ws) two k (suc (suc i)) = k

    pub looks : (slots id : ℕ) (v : View) → 0 < v.share → Allows {S = S} (λ s. IsKept scan s) slots id (v, []) 0 (λ n. n) (LooksJoined (step slots 0 0 0 none) (v, []))
    looks slots id v shared s kept homes at word =
        let n = slice_index s.words 0 in
        let floor = slice_index s.words 1 in
        let same : slice_set s.views id v ≡ s.views = Rattle.atomic_table.proofs.Lists.set_again s.views id v at in
        let scan' = same_scan scan n floor s.views kept.keeps id v at shared in
        let few = few_in_view scan n floor s.views kept.keeps id v at in (
          v,
          keeps,
          tt,
          same_words s kept v id (subst (λ (vs : List View). Keeps scan n floor vs) (sym same) kept.keeps) 0,
          record {
            same = refl;
            workers = worker_once scan n floor s.views kept.keeps id v at;
            few = omega arith;
            knows = knows scan n floor s.views kept.keeps id v at;
          },
        )

    pub sees : (slots id : ℕ) (v : View) → 0 < v.share → Allows {S = S} (λ s. IsKept scan s) slots id (v, []) 1 (λ n. n) (SeesFloor (step slots 1 0 0 none) (v, []))
    sees slots id v shared s kept homes at word =
        let n = slice_index s.words 0 in
        let floor = slice_index s.words 1 in
        let k = look_keeps scan n floor s.views kept.keeps id v at shared in (
          with_seen v floor,
          keeps,
          tt,
          same_words s kept (with_seen v floor) id k 1,
          record {
            seen = refl;
            falls = seen_at scan n floor s.views kept.keeps id v at;
            knows = knows scan n floor (slice_set s.views id (with_seen v floor)) k id (with_seen v floor) (set_at s.views id v (with_seen v floor) at);
          },
        )

    pub reports : (slots id block : ℕ) (v : View) → 0 < v.share → block ≤ unreported → Allows {S = S} (λ s. IsKept scan s) slots id (v, []) 1 (λ n. min n block) (Reports (step slots 1 block 0 none) (v, []))
    reports slots id block v shared small s kept homes at word =
        let n = slice_index s.words 0 in
        let floor = slice_index s.words 1 in
        let w = with_report v block floor in
        let k = report_keeps scan n floor s.views kept.keeps id v at shared block small in (
          w,
          keeps,
          tt,
          record { words = length_set s.words 1 (min floor block) kept.words; keeps = second_word s.words (min floor block) (slice_set s.views id w) kept.words k },
          record {
            report = refl;
            falls = seen_at scan n floor s.views kept.keeps id v at;
            knows = knows scan n (min floor block) (slice_set s.views id w) k id w (set_at s.views id v w at);
          },
        )

    -- the same for a seat's token, which holds no slot
    at_rest : (P : Me S View → Type 0) (me : Me S View) → me.1 ≡ [] → P (me.0, []) → P me
    at_rest P me empty p = subst (λ l. P (me.0, l)) (sym empty) p

    pub claims_as : (slots id worker chunk : ℕ) (me : Me S View) → me.1 ≡ [] → MayClaimAs worker me.0 → chunk ≡ next_chunk me.0.blocks (ramp_of me.0.blocks (claims_by worker me.0.claims))
        → Allows {S = S} (λ s. IsKept scan s) slots id me 0 (λ n. (n + chunk) % 2 ^ 64) (ClaimsFrom (step slots 0 chunk 0 none) me)
    claims_as slots id worker chunk me empty may size = at_rest (λ m. Allows {S = S} (λ s. IsKept scan s) slots id m 0 (λ n. (n + chunk) % 2 ^ 64) (ClaimsFrom (step slots 0 chunk 0 none) m)) me empty (claims slots id worker chunk me.0 may size)

    pub joins_as : (id other : ℕ) (me with' : Me S View) → 0 < me.0.share → Joins {S = S} (λ s. IsKept scan s) id me.0 other with'.0 (joined me.0 with'.0) spent
    joins_as id other me with' shared = joins id me.0 other with'.0 shared

    pub looks_as : (slots id : ℕ) (me : Me S View) → me.1 ≡ [] → 0 < me.0.share → Allows {S = S} (λ s. IsKept scan s) slots id me 0 (λ n. n) (LooksJoined (step slots 0 0 0 none) me)
    looks_as slots id me empty shared = at_rest (λ m. Allows {S = S} (λ s. IsKept scan s) slots id m 0 (λ n. n) (LooksJoined (step slots 0 0 0 none) m)) me empty (looks slots id me.0 shared)

    pub sees_as : (slots id : ℕ) (me : Me S View) → me.1 ≡ [] → 0 < me.0.share → Allows {S = S} (λ s. IsKept scan s) slots id me 1 (λ n. n) (SeesFloor (step slots 1 0 0 none) me)
    sees_as slots id me empty shared = at_rest (λ m. Allows {S = S} (λ s. IsKept scan s) slots id m 1 (λ n. n) (SeesFloor (step slots 1 0 0 none) m)) me empty (sees slots id me.0 shared)

    pub reports_as : (slots id block : ℕ) (me : Me S View) → me.1 ≡ [] → 0 < me.0.share → block ≤ unreported → Allows {S = S} (λ s. IsKept scan s) slots id me 1 (λ n. min n block) (Reports (step slots 1 block 0 none) me)
    reports_as slots id block me empty shared small = at_rest (λ m. Allows {S = S} (λ s. IsKept scan s) slots id m 1 (λ n. min n block) (Reports (step slots 1 block 0 none) m)) me empty (reports slots id block me.0 shared small)
