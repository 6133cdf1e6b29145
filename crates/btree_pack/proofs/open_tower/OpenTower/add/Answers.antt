use Rattle.std.proofs.Common.{◌≡◌, suc, ◌∷◌, [], length, ap, ◌∙◌, arith}
use Rattle.btree_pack.specs.Pass.Packing.{first_page}
use Rattle.btree_item.specs.Pivot.{minus_infinity}
use Rattle.btree_pack.proofs.Places.{add-begins, add-joins, at-got, kept, kept-same, none-there, some-at, some-there}
use Rattle.btree_pack.proofs.open_tower.OpenTower.add.Goals as goal

pub returns-then-is_empty-clause-ok : goal.returns-then-is_empty-clause-ok
returns-then-is_empty-clause-ok c =
    let old = c.args.self.now in
    let made = c.in_ok-begin_leaves.ensures in
    let count = old.pages.ok.0 in
    let len = none-there _ _ c.is_empty.ensures c.if-is_empty.true in
    let none : length old.pages.items ≡ 0 = omega arith in
    ap (λ t. kept t.pages.items t.tuples t.blocks t.image) c.in_ok-count_tuple.ensures
    ∙ kept-same _ _ _ _ _ _ _ _
    (made.pages ∙ ap (λ l. first_page 0 (suc old.blocks) (minus_infinity 0) l c.args.extra ∷ []) c.deref.ensures.value)
    (ap suc made.tuples) made.blocks made.image
    ∙ add-begins c.args.tuple.now.items c.args.extra old.pages.items old.tuples old.blocks old.image none

pub returns-clause-ok : goal.returns-clause-ok
returns-clause-ok c =
    let old = c.args.self.now in
    let count = old.pages.ok.0 in
    let len = some-there _ _ c.is_empty.ensures c.if-is_empty.false in
    let at = some-at old.pages.items 0 (omega arith) in
    let others = c.in_ok-join.ensures.others in
    ap (λ t. kept t.pages.items t.tuples t.blocks t.image) (c.in_ok-count_tuple-2.ensures)
    ∙ kept-same _ _ _ _ _ _ _ _ (at-got _ old.pages.items 0 at.0 at.1 c.in_ok-join.ensures.page) (ap suc others.tuples) others.blocks others.image
    ∙ add-joins c.args.tuple.now.items c.args.extra old.pages.items at.0 old.tuples old.blocks old.image at.1
