use Rattle.std.proofs.Common.{ℕ, suc, ◌++◌, ◌∷◌, sym, ap, ◌∙◌, []}
use Rattle.btree_pack.specs.Pass.Packing.{with_carried, first_page}
use Rattle.btree_pack.proofs.Carrying.{carried-begins}
use Rattle.btree_pack.proofs.Places.{kept, kept-same}
use Rattle.btree_pack.proofs.open_tower.OpenTower.begin_level.Goals as goal

pub returns-clause-ok : goal.returns-clause-ok
returns-clause-ok c =
    let old = c.args.self.now in
    let b = c.in_ok-block.ensures in
    kept-same (old.pages.items ++ first_page c.args.level (suc old.blocks) c.args.pivot.now c.args.pivot.now 0 ∷ []) _ old.tuples _ (suc old.blocks) _ old.image _
    (c.in_ok-push.ensures.items
    ∙ ap (λ t. t.pages.items ++ c.in_ok-page.page ∷ []) b.after
    ∙ ap (λ p. old.pages.items ++ p ∷ [])
    (c.in_ok-page.ensures
    ∙ ap (λ (n : ℕ). first_page c.args.level n c.in_ok-low_key.low_key.items c.args.pivot.now 0) b.number
    ∙ ap (λ l. first_page c.args.level (suc old.blocks) l c.args.pivot.now 0) c.in_ok-low_key.ensures.items))
    (ap (λ t. t.tuples) b.after) (ap (λ t. t.blocks) b.after) (ap (λ t. t.image) b.after)
    ∙ sym (ap (λ r. with_carried old.pages.items r (kept old.pages.items old.tuples old.blocks old.image)) (carried-begins [] old.fillfactor c.args.level old.blocks old.image c.args.pivot.now))
