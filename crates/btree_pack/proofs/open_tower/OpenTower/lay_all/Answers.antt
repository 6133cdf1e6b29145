use Rattle.std.proofs.Common.{◌≡◌, ◌+◌, ◌-◌, suc, length, ap, ◌∙◌, arith}
use Rattle.btree_pack.specs.Pass.Buffer.{leaves_between}
use Rattle.btree_pack.proofs.Joinings.{all-joins, length-between}
use Rattle.btree_pack.proofs.Places.{at-got, kept, kept-same, some-at}
use Rattle.btree_pack.proofs.open_tower.OpenTower.lay_all.Goals as goal

pub returns-clause-ok : goal.returns-clause-ok
returns-clause-ok c =
    let old = c.args.self.now in
    let leaves = leaves_between c.args.first.number c.args.last.number c.args.leaves.now in
    let at = some-at old.pages.items 0 c.requires.leaf in
    let others = c.in_ok-join_all.ensures.others in
    let long = length-between c.args.first.number c.args.last.number c.args.leaves.now c.requires.order c.requires.last.inside in
    let same = others.tuples in
    let count : suc (c.join_all.new.self.tuples + (c.args.last.number - c.args.first.number)) ≡ old.tuples + length leaves = omega arith in
    ap (λ t. kept t.pages.items t.tuples t.blocks t.image) c.in_ok-count_tuple.ensures
    ∙ ap (λ t. kept t.pages.items (suc t.tuples) t.blocks t.image) c.in_ok-count_tuples.ensures
    ∙ kept-same _ _ _ _ _ _ _ _ (at-got _ old.pages.items 0 at.0 at.1 c.in_ok-join_all.ensures.page) count others.blocks others.image
    ∙ all-joins leaves old.pages.items at.0 old.tuples old.blocks old.image at.1
