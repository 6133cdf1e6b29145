use Rattle.std.proofs.Common.{◌≡◌, ◌+◌, ◌<◌, length, sym, ap, ◌∙◌, arith, length-set, true, false}
use Rattle.btree_pack.specs.Pass.Packing.{is_full}
use Rattle.btree_pack.proofs.Places.{at-got, carry-breaks, carry-joins, carry-same, got, if-got, kept-same}
use Rattle.btree_pack.proofs.open_tower.OpenTower.+carry.Goals as goal

pub returns-then-not-is_full-clause-ok : goal.returns-then-not-is_full-clause-ok
returns-then-not-is_full-clause-ok t c =
    let old = c.args.self.now in
    let count = old.pages.ok.0 in
    let inside : c.args.level < length old.pages.items = omega arith in
    let page = c.index-page.result.now in
    let here = got old.pages.items c.args.level page inside c.index-page.ensures in
    let others = c.in_ok-join.ensures.others in
    let full : is_full old.fillfactor page (length c.args.pivot.items) ≡ false =
    ap (is_full old.fillfactor page) (sym (c.len-2.ensures ∙ c.args.pivot.ok.0)) ∙ sym c.is_full.ensures.full ∙ c.if-not-is_full.true in
    kept-same _ _ _ _ _ _ _ _ (at-got _ old.pages.items c.args.level page here c.in_ok-join.ensures.page) others.tuples others.blocks others.image
    ∙ carry-joins old.fillfactor c.args.level old.pages.items page old.tuples old.blocks old.image c.args.pivot.items inside here full

pub turn_page-requires-clause-room : goal.turn_page-requires-clause-room
turn_page-requires-clause-room t c =
    let old = c.args.self.now in
    let count = old.pages.ok.0 in
    let inside : c.args.level < length old.pages.items = omega arith in
    let page = c.index-page.result.now in
    let here = got old.pages.items c.args.level page inside c.index-page.ensures in
    let same = ap length c.in_ok-high_key.ensures.last in
    if-got _ old.pages.items c.args.level page here (omega arith)

pub carry-requires : goal.carry-requires
carry-requires t c =
    let old = c.args.self.now in
    let count = old.pages.ok.0 in
    let inside : c.args.level < length old.pages.items = omega arith in
    let page = c.index-page.result.now in
    let here = got old.pages.items c.args.level page inside c.index-page.ensures in
    let now = ap length (at-got _ old.pages.items c.args.level page here c.in_ok-above.ensures.page) in
    let same = now ∙ length-set old.pages.items c.args.level _ in
    (omega (arith, c.decreases), (omega arith, (omega arith, c.in_ok-above.ensures.tuple)))

pub returns-clause-ok : goal.returns-clause-ok
returns-clause-ok t c =
    let old = c.args.self.now in
    let count = old.pages.ok.0 in
    let inside : c.args.level < length old.pages.items = omega arith in
    let page = c.index-page.result.now in
    let here = got old.pages.items c.args.level page inside c.index-page.ensures in
    let made = c.in_ok-above.ensures in
    let high = c.in_ok-high_key.ensures.last in
    let full : is_full old.fillfactor page (length c.args.pivot.items) ≡ true =
    ap (is_full old.fillfactor page) (sym (c.len-2.ensures ∙ c.args.pivot.ok.0)) ∙ sym c.is_full.ensures.full ∙ c.if-not-is_full.false in
    c.in_ok-carry.ensures.ok
    ∙ carry-same (c.args.level + 1) _ _ _ _ _ _ _ _ _ _ _ _ made.fillfactor
    (rw high at (at-got _ old.pages.items c.args.level page here made.page)) made.tuples made.blocks
    (rw high at (at-got _ old.pages.items c.args.level page here made.image)) (at-got _ old.pages.items c.args.level page here made.pivot)
    ∙ carry-breaks old.fillfactor c.args.level old.pages.items page old.tuples old.blocks old.image c.args.pivot.items inside here full
