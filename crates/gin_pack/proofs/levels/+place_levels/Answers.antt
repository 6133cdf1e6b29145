use Rattle.std.proofs.Common.{subst, arith}
use Rattle.gin_pack.specs.Pass.Placing.{AreCut}
use Rattle.gin_pack.proofs.Rising.{goes-on, levels-risen, only-page, root-risen, several-pages}
use Rattle.gin_pack.proofs.levels.+place_levels.Goals as goal

pub returns-then-len-eq1 : goal.returns-then-len-eq1
returns-then-len-eq1 t c =
    λ kind flags full last cut.
    let only = only-page c.args.pages.items c.index.result.now (let len = c.len.ensures in let one = c.if-len-eq1.true in omega arith) c.index.ensures in
    root-risen kind flags full last c.index.result.now c.args.image.now _ c.requires.begun c.in_ok-place.ensures.ok
    (subst (AreCut kind flags full last) only cut)

pub place_levels-requires : goal.place_levels-requires
place_levels-requires t c =
    let r = c.requires in
    let goes = goes-on r.kind r.flags r.full r.last c.args.pages.items c.in_ok-pages.pages.items c.args.image.now _ _ r.begun (λ e. c.if-len-eq1.false (let len = c.len.ensures in let ok = c.args.pages.ok.0 in omega arith)) r.cut
    (c.in_ok-above.ensures r.kind r.flags r.full r.last r.cut) c.in_ok-pages.ensures in
    let fewer = goes.fewer in
    (omega (arith, c.decreases), goes.placeable)

pub returns : goal.returns
returns t c =
    levels-risen c.args.pages.items c.in_ok-pages.pages.items c.args.image.now _ _ _ c.requires.begun (λ e. c.if-len-eq1.false (let len = c.len.ensures in let ok = c.args.pages.ok.0 in omega arith))
    c.in_ok-above.ensures c.in_ok-pages.ensures c.in_ok-place_levels.ensures

pub place_level-requires-clause-many : goal.place_level-requires-clause-many
place_level-requires-clause-many t c =
    let r = c.requires in
    several-pages r.kind r.flags r.full r.last c.args.pages.items r.cut
    (λ e. c.if-len-eq1.false (let len = c.len.ensures in let ok = c.args.pages.ok.0 in omega arith))
