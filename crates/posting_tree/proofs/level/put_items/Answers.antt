use Rattle.std.proofs.Common.{◌∙◌, ◌++◌, ap, List, ℕ}
use Rattle.posting_tree.proofs.InnerSteps.{items-more}
use Rattle.posting_tree.proofs.level.put_items.Goals as goal

pub loop-at-preserved : goal.loop-at-preserved
loop-at-preserved c =
    items-more _ _ _ _ _ _ _ c.loop-at-test.true c.loop-at.invariant
    (c.in_ok-extend_from_slice.ensures.items ∙ ap (λ (l : List ℕ). c.loop-at.out.items ++ l) c.posting_item.ensures)
