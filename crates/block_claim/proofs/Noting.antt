-- A report and a look at the floor keep the rule.
use Rattle.std.proofs.Common.{◌≡◌, ℕ, ◌<◌, ◌≤◌, min, List, [], ◌∷◌, ◌++◌, set, le_trans, arith}
use mathlib.Core.Option.{some}
use lib.ListN.{get_elem?}
use Rattle.std.proofs.lemmas.List.Elements.{All-set}
use Rattle.block_claim.specs.declared.view.View.{View}
use Rattle.block_claim.specs.declared.view.Extent.{Extent}
use Rattle.block_claim.specs.Legal.{times_claimed, numbers_of}
use Rattle.block_claim.specs.Views.{times, unreported, with_seen, with_report}
use Rattle.block_claim.specs.Rule.{IsSpent, KeepsToTheRamp, Keeps, least_report}
use Rattle.block_claim.proofs.Lists.{all_to, sum_set, set_at}
use Rattle.block_claim.proofs.Floors.{least_set, least_part, least_append}
use Rattle.block_claim.proofs.Whole.{ramp_at, same_scan}

-- the view with other reports, and with another number seen
abbrev noted : View → List ℕ → ℕ → View
noted v reports seen = record v { reports = reports; seen = seen }

module _ (scan : Extent) (next floor : ℕ) (views : List View) (keeps : Keeps scan next floor views) (i : ℕ) (v : View) (at : get_elem? views i ≡ some v) (shared : 0 < v.share) where
  note_keeps : (reports : List ℕ) (seen lower : ℕ) → lower ≡ least_report (set views i (noted v reports seen)) → lower ≤ floor → lower ≤ seen → Keeps scan next lower (set views i (noted v reports seen))
  note_keeps reports seen lower least falls bound = record {
    shares = record {
      whole = (let all = sum_set (λ (u : View). u.share) views i v (noted v reports seen) at in let was = keeps.shares.whole in omega arith);
      spent = All-set (λ (u : View). u.share ≡ 0 → IsSpent u) views i (noted v reports seen) (λ none. absurd (omega arith)) keeps.shares.spent;
      same = All-set (λ (u : View). 0 < u.share → (u.blocks ≡ scan.blocks) × (u.seats ≡ scan.seats)) views i (noted v reports seen) (same_scan scan next floor views keeps i v at) keeps.shares.same;
    };
    numbers = λ w. (let all = sum_set (λ (u : View). times w u.workers) views i v (noted v reports seen) at in let was = keeps.numbers w in omega arith);
    ramp = All-set (KeepsToTheRamp scan) views i (noted v reports seen)
        (let was : KeepsToTheRamp scan v = ramp_at scan next floor views keeps i v at in record { room = was.room; sizes = was.sizes; workers = was.workers; ramp = was.ramp; ascending = was.ascending }) keeps.ramp;
    tiles = record {
      sum = (let all = sum_set (λ (u : View). numbers_of u.claims) views i v (noted v reports seen) at in let was = keeps.tiles.sum in omega arith);
      once = λ n. (let all = sum_set (λ (u : View). times_claimed n u.claims) views i v (noted v reports seen) at in let was = keeps.tiles.once n in omega arith);
    };
    least = record {
      least = least;
      seen = All-set (λ (u : View). lower ≤ u.seen) views i (noted v reports seen) bound (all_to (λ (u : View). floor ≤ u.seen) (λ (u : View). lower ≤ u.seen) views (λ u h. le_trans falls h) keeps.least.seen);
    };
  }

  pub look_keeps : Keeps scan next floor (set views i (with_seen v floor))
  look_keeps = note_keeps v.reports floor floor
      (let all = least_set views i v (with_seen v floor) at in
      let part = least_part views i v at in
      let part' = least_part (set views i (with_seen v floor)) i (with_seen v floor) (set_at views i v (with_seen v floor) at) in
      let was = keeps.least.least in
      omega arith)
      (omega arith) (omega arith)

  pub report_keeps : (block : ℕ) → block ≤ unreported → Keeps scan next (min floor block) (set views i (with_report v block floor))
  report_keeps block small = note_keeps (v.reports ++ block ∷ []) (min floor block) (min floor block)
      (let all = least_set views i v (with_report v block floor) at in
      let part = least_part views i v at in
      let part' = least_part (set views i (with_report v block floor)) i (with_report v block floor) (set_at views i v (with_report v block floor) at) in
      let both = least_append v.reports (block ∷ []) in
      let was = keeps.least.least in
      omega arith)
      (omega arith) (omega arith)
