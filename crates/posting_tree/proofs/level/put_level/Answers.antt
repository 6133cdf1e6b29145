use Rattle.std.proofs.Common.{◌≡◌, ◌∙◌, ◌+◌, ap, ℕ, refl, length, arith, length-drop}
use Rattle.std.proofs.lemmas.List.{length_push}
use Rattle.posting_tree.proofs.DataWrites.{extends-more}
use Rattle.posting_tree.proofs.InnerSteps.{inner-more, inner-whole}
use Rattle.posting_tree.proofs.level.put_level.Goals as goal

pub loop-left-preserved : goal.loop-left-preserved
loop-left-preserved c =
    let inv = c.loop-left.invariant in
    let pushed = c.in_ok-put_page.ensures.keys in
    let first = c.in_ok-put_page.ensures.first in
    let behind = ap length c.split_at.ensures.back ∙ length-drop 815 c.loop-left.left.now in
    let keys = ap length pushed.2 ∙ length_push c.loop-left.level.keys.items pushed.0 in
    let size = c.in_ok-put_page.ensures.size in
    record {
      taken = rw first (inner-more _ _ _ _ _ _ _ _ _ _ _ _ _ _ inv.taken c.loop-left-test.true c.split_at.ensures.front c.split_at.ensures.back refl
          (ap (λ (n : ℕ). c.loop-left.level.first + n + 1) (let e : c.len.result ≡ length c.loop-left.level.keys.items = omega (arith, c.len.ensures) in e)) c.in_ok-put_page.ensures.ok pushed);
      size = omega arith;
      first = first ∙ inv.first;
      some = omega arith;
      extends = extends-more _ _ _ inv.extends c.in_ok-put_page.ensures.extends;
    }

pub returns-clause-level : goal.returns-clause-level
returns-clause-level c =
    rw c.in_ok-put_page-2.ensures.first
    (inner-whole _ _ _ _ _ _ _ _ _ _ c.loop-left.invariant.taken c.loop-left.invariant.some c.loop-left-test.false c.in_ok-put_page-2.ensures.ok c.in_ok-put_page-2.ensures.keys)
