use Rattle.std.proofs.Common.{◌≡◌, ◌+◌, ◌-◌, length, ap, arith}
use Rattle.btree_pack.specs.declared.leaves.LeafPlace.{LeafPlace}
use Rattle.btree_pack.proofs.LeafBuffer.{leaf-at, length-leaves_cut}
use Rattle.btree_pack.proofs.leaves.Leaves.tuple.Goals as goal

pub index-size-requires : goal.index-size-requires
index-size-requires c =
    let count = length-leaves_cut c.self.inside.sizes.items c.self.inside.tuples.items c.self.inside.separators.items in
    let same = ap length c.self.view_is in
    let o = c.self.inside.sizes.ok.0 in
    let inside = c.requires.inside in
    omega arith

pub overflow_add-result : goal.overflow_add-result
overflow_add-result c =
    let room = (leaf-at c.args.self.now c.self.inside.sizes.items c.self.inside.tuples.items c.self.inside.separators.items c.args.place.number c.index-size.result.now c.self.view_is c.self.invariant c.requires.inside c.index-size.ensures).tuple_room in
    let place = ap (λ (p : LeafPlace). p.tuple) c.requires.is in
    let size = c.from.ensures in
    let fits = c.self.inside.tuples.ok.0 in
    omega arith

pub slice_bounds-result-end : goal.slice_bounds-result-end
slice_bounds-result-end c =
    let room = (leaf-at c.args.self.now c.self.inside.sizes.items c.self.inside.tuples.items c.self.inside.separators.items c.args.place.number c.index-size.result.now c.self.view_is c.self.invariant c.requires.inside c.index-size.ensures).tuple_room in
    let place = ap (λ (p : LeafPlace). p.tuple) c.requires.is in
    let size = c.from.ensures in
    let fits = c.self.inside.tuples.ok.0 in
    let long = c.deref.ensures.len in
    omega arith

pub returns : goal.returns
returns c =
    let is = (leaf-at c.args.self.now c.self.inside.sizes.items c.self.inside.tuples.items c.self.inside.separators.items c.args.place.number c.index-size.result.now c.self.view_is c.self.invariant c.requires.inside c.index-size.ensures).tuple in
    let place = ap (λ (p : LeafPlace). p.tuple) c.requires.is in
    let n : c.args.place.tuple + c.from.result - c.args.place.tuple ≡ c.index-size.result.now.tuple = let size = c.from.ensures in omega arith in
    rw (n, c.deref.ensures.value, place) is
