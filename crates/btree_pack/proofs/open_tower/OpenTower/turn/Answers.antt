use Rattle.std.proofs.Common.{suc, ap, ◌∙◌}
use Rattle.btree_pack.specs.Pass.Packing.{Packing}
use Rattle.btree_pack.proofs.Places.{at-got, carry-same, kept, some-at, turns-leaf}
use Rattle.btree_pack.proofs.open_tower.OpenTower.turn.Goals as goal

pub returns-clause-ok : goal.returns-clause-ok
returns-clause-ok c =
    let old = c.args.self.now in
    let at = some-at old.pages.items 0 c.requires.leaf in
    let made = c.in_ok-pivot.ensures in
    let more : Packing → Packing = λ p. kept p.pages (suc p.tuples) p.blocks p.image in
    ap (λ t. kept t.pages.items t.tuples t.blocks t.image) c.in_ok-count_tuple.ensures
    ∙ ap more (c.in_ok-carry.ensures.ok
    ∙ carry-same 1 _ _ _ _ _ _ _ _ _ _ _ _ made.fillfactor
    (at-got _ old.pages.items 0 at.0 at.1 made.page) made.tuples made.blocks
    (at-got _ old.pages.items 0 at.0 at.1 made.image) (at-got _ old.pages.items 0 at.0 at.1 made.pivot))
    ∙ turns-leaf old.fillfactor c.args.high_key.items c.args.tuple.now.items c.args.extra old.pages.items at.0 old.tuples old.blocks old.image at.1
