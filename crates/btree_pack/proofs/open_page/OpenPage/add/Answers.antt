use Rattle.std.proofs.Common.{◌+◌, ap, ◌∙◌, ℕ, length}
use Rattle.btree_pack.proofs.OpenPages.{one-more}
use Rattle.btree_pack.proofs.open_page.OpenPage.add.Goals as goal

pub invariant_of-self : goal.invariant_of-self
invariant_of-self c = rw c.in_err-push.ensures.err c.self.invariant

pub invariant_of-self-2 : goal.invariant_of-self-2
invariant_of-self-2 c =
    rw (c.in_ok-push.ensures.ok, c.deref.ensures.value, c.swap.ensures.x_after)
    (one-more _ c.self.inside.taken c.args.tuple.now.items c.args.extra _ c.self.invariant c.requires.tuple (rw (← c.self.view_is) at c.requires.room) c.requires.extra
    (ap (λ (n : ℕ). c.self.inside.taken + (n + 4)) (c.len.ensures ∙ c.swap.new.x.ok.0 ∙ ap (λ v. length v.items) c.swap.ensures.x_after)))
