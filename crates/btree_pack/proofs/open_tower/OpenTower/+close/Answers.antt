use Rattle.std.proofs.Common.{◌+◌, ◌<◌, length, ap, ◌∙◌, arith}
use Rattle.btree_pack.proofs.Places.{at-got, close-root, closed-same, closes-up, come-up, got, some-at}
use Rattle.btree_pack.proofs.open_tower.OpenTower.+close.Goals as goal

pub returns-then-level-len : goal.returns-then-level-len
returns-then-level-len t c =
    let old = c.args.self.now in
    let count = old.pages.ok.0 in
    let inside : c.args.level < length old.pages.items = c.requires.level in
    let at = some-at old.pages.items c.args.level inside in
    let place = at-got _ old.pages.items c.args.level at.0 at.1 c.in_ok-root.ensures.place in
    record {
      root = close-root old.fillfactor c.args.most c.args.level old.pages.items at.0 old.blocks old.image (omega arith) at.1 (omega arith)
          ∙ closed-same _ _ _ _ _ _ (at-got _ old.pages.items c.args.level at.0 at.1 c.in_ok-root.ensures.image) place.0 place.1;
    }

pub close-requires : goal.close-requires
close-requires t c =
    let old = c.args.self.now in
    let count = old.pages.ok.0 in
    let inside : c.args.level < length old.pages.items = c.requires.level in
    let more : c.args.level + 1 < length old.pages.items = omega arith in
    let same = ap (λ t. t.pages.items) c.in_ok-place_last.ensures.others in
    (omega (arith, c.decreases), come-up _ c.args.level old.pages.items _ _ _ _ _ more same (ap (λ p. p.pages) c.in_ok-carry.ensures.ok))

pub returns : goal.returns
returns t c =
    let old = c.args.self.now in
    let count = old.pages.ok.0 in
    let inside : c.args.level < length old.pages.items = c.requires.level in
    let more : c.args.level + 1 < length old.pages.items = omega arith in
    let page = c.index.result.now in
    let here = got old.pages.items c.args.level page inside c.index.ensures in
    let others = c.in_ok-place_last.ensures.others in
    record {
      root =
          closes-up c.args.most c.args.level old.fillfactor _ _ old.pages.items _ _ page _ _ old.blocks _ _ old.image _ _ _ (omega arith) here more
          (ap (λ t. t.fillfactor) others) c.in_ok-carry.ensures.fillfactor (ap (λ t. t.pages.items) others) (ap (λ t. t.blocks) others)
          (at-got _ old.pages.items c.args.level page here c.in_ok-place_last.ensures.image) c.in_ok-pivot.ensures.pivot c.in_ok-carry.ensures.ok
          ∙ c.in_ok-root-2.ensures.root;
    }
