use Rattle.std.proofs.Common.{◌+◌, ap, ◌∙◌, ℕ}
use Rattle.btree_pack.proofs.OpenPages.{one-tuple}
use Rattle.btree_pack.proofs.open_page.OpenPage.turn.Goals as goal

pub invariant_of-self : goal.invariant_of-self
invariant_of-self c =
    rw (c.clear.ensures, c.replace-pivot.ensures.after)
    (one-tuple _ _ _ _ _ _ _ c.requires.high_key c.make_first.ensures.tuple c.requires.block c.self.invariant.level c.self.invariant.extra
    (ap (λ (n : ℕ). n + 4) (c.len.ensures ∙ c.make_first.new.tuple.ok.0)))
