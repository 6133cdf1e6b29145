use Rattle.std.proofs.Common.{◌≡◌, ap, ◌∙◌, arith, length}
use Rattle.btree_pack.specs.Pass.Buffer.{tuples_cut}
use Rattle.btree_pack.proofs.Joinings.{room-cut}
use Rattle.btree_pack.proofs.OpenPages.{all-more}
use Rattle.btree_pack.proofs.open_page.OpenPage.add_all.Goals as goal

pub invariant_of-self-2 : goal.invariant_of-self-2
invariant_of-self-2 c =
    let cut = room-cut c.args.sizes.now c.args.bytes.now c.requires.whole in
    let last : c.len.result ≡ length c.args.tuple.now.items = c.len.ensures ∙ c.swap.new.x.ok.0 ∙ ap (λ v. length v.items) c.swap.ensures.x_after in
    rw (c.in_ok-push_all.ensures.ok, c.deref.ensures.value, c.swap.ensures.x_after)
    (all-more _ c.self.inside.taken (tuples_cut c.args.sizes.now c.args.bytes.now) c.args.tuple.now.items c.args.extra _ c.self.invariant c.requires.tuples c.requires.tuple
    (rw (← c.self.view_is) at c.requires.room) c.requires.extra (omega arith))
