use Rattle.std.proofs.Common.{◌+◌, ap, ◌∙◌, ℕ}
use Rattle.btree_pack.proofs.OpenPages.{one-tuple}
use Rattle.btree_pack.proofs.open_page.OpenPage.first.Goals as goal

pub invariant_of-result : goal.invariant_of-result
invariant_of-result c =
    rw c.new.ensures
    (one-tuple _ _ _ _ _ _ _ c.requires.low_key c.make_first.ensures.tuple c.requires.block c.requires.level c.requires.extra
    (ap (λ (n : ℕ). n + 4) (c.len-taken.ensures ∙ c.make_first.new.tuple.ok.0)))
