use Rattle.std.proofs.Common.{◌≡◌, ◌+◌, ◌-◌, arith, ap, length}
use Rattle.btree_pack.proofs.LeafBuffer.{length-leaves_cut, sizes-from}
use Rattle.btree_pack.proofs.leaves.Leaves.sizes.Goals as goal

pub overflow_add-result : goal.overflow_add-result
overflow_add-result c =
    let count = length-leaves_cut c.self.inside.sizes.items c.self.inside.tuples.items c.self.inside.separators.items in
    let same = ap length c.self.view_is in
    let o = c.self.inside.sizes.ok.0 in
    let inside = c.requires in
    omega arith

pub offset_bounds-deref-number : goal.offset_bounds-deref-number
offset_bounds-deref-number c =
    let count = length-leaves_cut c.self.inside.sizes.items c.self.inside.tuples.items c.self.inside.separators.items in
    let same = ap length c.self.view_is in
    let o = c.self.inside.sizes.ok.0 in
    let small = c.self.inside.sizes.small in
    let inside = c.requires in
    omega arith

pub slice_bounds-result-end : goal.slice_bounds-result-end
slice_bounds-result-end c =
    let count = length-leaves_cut c.self.inside.sizes.items c.self.inside.tuples.items c.self.inside.separators.items in
    let same = ap length c.self.view_is in
    let o = c.self.inside.sizes.ok.0 in
    let inside = c.requires in
    let long = c.deref.ensures.len in
    omega arith

pub returns : goal.returns
returns c =
    let n : c.args.number + c.args.count - c.args.number ≡ c.args.count = omega arith in
    rw (n, c.deref.ensures.value) (sizes-from c.args.self.now c.self.inside.sizes.items c.self.inside.tuples.items c.self.inside.separators.items c.args.number c.args.count c.self.view_is c.self.invariant)
