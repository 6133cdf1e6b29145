-- The least of all reports, where one view changes.
use Rattle.std.proofs.Common.{◌≡◌, ℕ, zero, suc, ◌≤◌, min, List, [], ◌∷◌, ◌++◌, set, sum_by, All, sym, refl, ap, arith}
use mathlib.Core.Option.{some, some-injective, some-ne-none}
use lib.ListN.{get_elem?}
use Rattle.std.proofs.lemmas.List.Sums.{sum_by-cons}
use Rattle.block_claim.specs.declared.view.View.{View}
use Rattle.block_claim.specs.Views.{least_of, unreported}
use Rattle.block_claim.specs.Rule.{least_report}
use Rattle.block_claim.proofs.Lists.{all_head, all_tail, sum_part}

pub least_top : (blocks : List ℕ) → least_of blocks ≤ unreported
least_top [] = omega arith
least_top (b ∷ bs) = let h = least_top bs in omega arith

pub least_append : (a b : List ℕ) → least_of (a ++ b) ≡ min (least_of a) (least_of b)
least_append [] b = let h = least_top b in omega arith
least_append (x ∷ xs) b = let h = least_append xs b in omega arith

pub least_report_top : (views : List View) → least_report views ≤ unreported
least_report_top [] = omega arith
least_report_top (v ∷ vs) = let h = least_report_top vs in omega arith

least_same : (v w : View) → some v ≡ some w → least_of v.reports ≡ least_of w.reports
least_same v w e = ap (λ (u : View). least_of u.reports) (some-injective v w e)

pub least_set : (views : List View) (i : ℕ) (v w : View) → get_elem? views i ≡ some v → min (least_report (set views i w)) (least_of v.reports) ≡ min (least_report views) (least_of w.reports)
least_set [] i v w e = absurd (some-ne-none v (sym e))
least_set (x ∷ xs) zero v w e = let h = least_same x v e in omega arith
least_set (x ∷ xs) (suc i) v w e = let h = least_set xs i v w e in omega arith

pub least_part : (views : List View) (i : ℕ) (v : View) → get_elem? views i ≡ some v → least_report views ≤ least_of v.reports
least_part [] i v e = absurd (some-ne-none v (sym e))
least_part (x ∷ xs) zero v e = let h = least_same x v e in omega arith
least_part (x ∷ xs) (suc i) v e = let h = least_part xs i v e in omega arith

pub least_snoc : (views : List View) (w : View) → least_report (views ++ w ∷ []) ≡ min (least_report views) (least_of w.reports)
least_snoc [] w = let h = least_top w.reports in omega arith
least_snoc (x ∷ xs) w = let h = least_snoc xs w in omega arith

least_none : (views : List View) → sum_by (λ (v : View). v.share) views ≡ 0 → All (λ v. v.share ≡ 0 → least_of v.reports ≡ unreported) views → least_report views ≡ unreported
least_none [] none h = refl
least_none (x ∷ xs) none h =
    let s = sum_by-cons (λ (v : View). v.share) x xs in
    let here = all_head (λ (v : View). v.share ≡ 0 → least_of v.reports ≡ unreported) x xs h (omega arith) in
    let there = least_none xs (omega arith) (all_tail (λ (v : View). v.share ≡ 0 → least_of v.reports ≡ unreported) x xs h) in
    omega arith

-- where one view has the whole share, the least report is its own
pub least_only : (views : List View) (i : ℕ) (v : View) → get_elem? views i ≡ some v → sum_by (λ (u : View). u.share) views ≡ v.share → All (λ u. u.share ≡ 0 → least_of u.reports ≡ unreported) views → least_report views ≡ least_of v.reports
least_only [] i v e whole h = absurd (some-ne-none v (sym e))
least_only (x ∷ xs) zero v e whole h =
    let same = least_same x v e in
    let same' : x.share ≡ v.share = ap (λ (u : View). u.share) (some-injective x v e) in
    let s = sum_by-cons (λ (u : View). u.share) x xs in
    let others = least_none xs (omega arith) (all_tail (λ (u : View). u.share ≡ 0 → least_of u.reports ≡ unreported) x xs h) in
    let top = least_top x.reports in
    omega arith
least_only (x ∷ xs) (suc i) v e whole h =
    let s = sum_by-cons (λ (u : View). u.share) x xs in
    let part = sum_part (λ (u : View). u.share) xs i v e in
    let here = all_head (λ (u : View). u.share ≡ 0 → least_of u.reports ≡ unreported) x xs h (omega arith) in
    let others = least_only xs i v e (omega arith) (all_tail (λ (u : View). u.share ≡ 0 → least_of u.reports ≡ unreported) x xs h) in
    let top = least_top v.reports in
    omega arith
