use Rattle.std.proofs.Common.{◌+◌, ◌<◌, ap, arith, drop}
use Rattle.std.proofs.lemmas.List.{length-drop}
use Rattle.btree_pack.specs.Pass.Sight.{fillfactor_of, packing_of}
use Rattle.btree_pack.specs.declared.leaves.LeafPlace.{LeafPlace}
use Rattle.btree_pack.proofs.Adding.{joining-of, more-came, one-came}
use Rattle.btree_pack.proofs.LeafBuffer.{is-place-in}
use Rattle.btree_pack.proofs.run_leaves.RunLeaves.lay_page.Goals as goal

pub joining-count-requires-clause-leaf : goal.joining-count-requires-clause-leaf
joining-count-requires-clause-leaf c =
    (one-came (fillfactor_of c.args.self.now.tower) c.args.high_key.now (packing_of c.args.self.now.tower) c.args.leaves.now c.args.place.number c.tuple-tuple.result.now c.extra-extra.result (packing_of c.lay.new.self)
    c.requires.place.inside c.requires.leaf c.tuple-tuple.ensures c.extra-extra.ensures c.in_ok-lay.ensures.ok).1

pub returns-then-count-eq0-clause-laid : goal.returns-then-count-eq0-clause-laid
returns-then-count-eq0-clause-laid c =
    (one-came (fillfactor_of c.args.self.now.tower) c.args.high_key.now (packing_of c.args.self.now.tower) c.args.leaves.now c.args.place.number c.tuple-tuple.result.now c.extra-extra.result (packing_of c.lay.new.self)
    c.requires.place.inside c.requires.leaf c.tuple-tuple.ensures c.extra-extra.ensures c.in_ok-lay.ensures.ok).0

pub behind-last-requires-clause-within : goal.behind-last-requires-clause-within
behind-last-requires-clause-within c =
    let first = ap (λ (p : LeafPlace). p.number) c.behind-first.ensures in
    let long = length-drop c.behind-first.result.number c.args.leaves.now in
    let here = c.requires.place.inside in
    let within = (joining-of (fillfactor_of c.args.self.now.tower) (fillfactor_of c.lay.new.self) (packing_of c.lay.new.self) (drop c.behind-first.result.number c.args.leaves.now) c.joining-count.result
    (one-came (fillfactor_of c.args.self.now.tower) c.args.high_key.now (packing_of c.args.self.now.tower) c.args.leaves.now c.args.place.number c.tuple-tuple.result.now c.extra-extra.result (packing_of c.lay.new.self)
    c.requires.place.inside c.requires.leaf c.tuple-tuple.ensures c.extra-extra.ensures c.in_ok-lay.ensures.ok).1
    c.in_ok-lay.ensures.fillfactor c.joining-count.ensures).2.within in
    omega arith

pub lay_all-requires-clause-last : goal.lay_all-requires-clause-last
lay_all-requires-clause-last c =
    let first = ap (λ (p : LeafPlace). p.number) c.behind-first.ensures in
    let long = length-drop c.behind-first.result.number c.args.leaves.now in
    let here = c.requires.place.inside in
    let within = (joining-of (fillfactor_of c.args.self.now.tower) (fillfactor_of c.lay.new.self) (packing_of c.lay.new.self) (drop c.behind-first.result.number c.args.leaves.now) c.joining-count.result
    (one-came (fillfactor_of c.args.self.now.tower) c.args.high_key.now (packing_of c.args.self.now.tower) c.args.leaves.now c.args.place.number c.tuple-tuple.result.now c.extra-extra.result (packing_of c.lay.new.self)
    c.requires.place.inside c.requires.leaf c.tuple-tuple.ensures c.extra-extra.ensures c.in_ok-lay.ensures.ok).1
    c.in_ok-lay.ensures.fillfactor c.joining-count.ensures).2.within in
    is-place-in c.args.leaves.now (c.args.place.number + c.joining-count.result) c.behind-last.result c.behind-last.ensures (omega arith)

pub lay_all-requires-clause-leaf : goal.lay_all-requires-clause-leaf
lay_all-requires-clause-leaf c =
    (one-came (fillfactor_of c.args.self.now.tower) c.args.high_key.now (packing_of c.args.self.now.tower) c.args.leaves.now c.args.place.number c.tuple-tuple.result.now c.extra-extra.result (packing_of c.lay.new.self)
    c.requires.place.inside c.requires.leaf c.tuple-tuple.ensures c.extra-extra.ensures c.in_ok-lay.ensures.ok).1

pub returns-clause-last : goal.returns-clause-last
returns-clause-last c =
    let first = ap (λ (p : LeafPlace). p.number) c.behind-first.ensures in
    let long = length-drop c.behind-first.result.number c.args.leaves.now in
    let here = c.requires.place.inside in
    let within = (joining-of (fillfactor_of c.args.self.now.tower) (fillfactor_of c.lay.new.self) (packing_of c.lay.new.self) (drop c.behind-first.result.number c.args.leaves.now) c.joining-count.result
    (one-came (fillfactor_of c.args.self.now.tower) c.args.high_key.now (packing_of c.args.self.now.tower) c.args.leaves.now c.args.place.number c.tuple-tuple.result.now c.extra-extra.result (packing_of c.lay.new.self)
    c.requires.place.inside c.requires.leaf c.tuple-tuple.ensures c.extra-extra.ensures c.in_ok-lay.ensures.ok).1
    c.in_ok-lay.ensures.fillfactor c.joining-count.ensures).2.within in
    is-place-in c.args.leaves.now (c.args.place.number + c.joining-count.result) c.behind-last.result c.behind-last.ensures (omega arith)

pub returns-clause-laid : goal.returns-clause-laid
returns-clause-laid c =
    let some : 0 < c.joining-count.result = let t = c.if-count-eq0.false in omega arith in
    more-came (fillfactor_of c.args.self.now.tower) c.args.high_key.now (packing_of c.args.self.now.tower) (packing_of c.lay.new.self) _ c.args.leaves.now c.args.place.number c.behind-first.result.number
    c.behind-last.result.number c.joining-count.result
    (one-came (fillfactor_of c.args.self.now.tower) c.args.high_key.now (packing_of c.args.self.now.tower) c.args.leaves.now c.args.place.number c.tuple-tuple.result.now c.extra-extra.result (packing_of c.lay.new.self)
    c.requires.place.inside c.requires.leaf c.tuple-tuple.ensures c.extra-extra.ensures c.in_ok-lay.ensures.ok).0
    (ap (λ (p : LeafPlace). p.number) c.behind-first.ensures) (ap (λ (p : LeafPlace). p.number) c.behind-last.ensures) some
    (joining-of (fillfactor_of c.args.self.now.tower) (fillfactor_of c.lay.new.self) (packing_of c.lay.new.self) (drop c.behind-first.result.number c.args.leaves.now) c.joining-count.result
    (one-came (fillfactor_of c.args.self.now.tower) c.args.high_key.now (packing_of c.args.self.now.tower) c.args.leaves.now c.args.place.number c.tuple-tuple.result.now c.extra-extra.result (packing_of c.lay.new.self)
    c.requires.place.inside c.requires.leaf c.tuple-tuple.ensures c.extra-extra.ensures c.in_ok-lay.ensures.ok).1
    c.in_ok-lay.ensures.fillfactor c.joining-count.ensures)
    c.in_ok-lay_all.ensures.ok
