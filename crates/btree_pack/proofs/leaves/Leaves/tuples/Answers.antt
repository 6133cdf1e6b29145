use Rattle.std.proofs.Common.{arith}
use Rattle.btree_pack.proofs.LeafBuffer.{between}
use Rattle.btree_pack.proofs.leaves.Leaves.tuples.Goals as goal

pub slice_bounds-result-count : goal.slice_bounds-result-count
slice_bounds-result-count c = (between c.args.self.now c.self.inside.sizes.items c.self.inside.tuples.items c.self.inside.separators.items c.args.first c.args.last c.self.view_is c.self.invariant c.requires.first c.requires.last c.requires.order).order

pub slice_bounds-result-start : goal.slice_bounds-result-start
slice_bounds-result-start c =
    let order = (between c.args.self.now c.self.inside.sizes.items c.self.inside.tuples.items c.self.inside.separators.items c.args.first c.args.last c.self.view_is c.self.invariant c.requires.first c.requires.last c.requires.order).order in
    let room = (between c.args.self.now c.self.inside.sizes.items c.self.inside.tuples.items c.self.inside.separators.items c.args.first c.args.last c.self.view_is c.self.invariant c.requires.first c.requires.last c.requires.order).room in
    let long = c.deref.ensures.len in
    let count = c.self.inside.tuples.ok.0 in
    omega arith

pub slice_bounds-result-end : goal.slice_bounds-result-end
slice_bounds-result-end c =
    let room = (between c.args.self.now c.self.inside.sizes.items c.self.inside.tuples.items c.self.inside.separators.items c.args.first c.args.last c.self.view_is c.self.invariant c.requires.first c.requires.last c.requires.order).room in
    let long = c.deref.ensures.len in
    let count = c.self.inside.tuples.ok.0 in
    omega arith

pub returns : goal.returns
returns c = rw c.deref.ensures.value (between c.args.self.now c.self.inside.sizes.items c.self.inside.tuples.items c.self.inside.separators.items c.args.first c.args.last c.self.view_is c.self.invariant c.requires.first c.requires.last c.requires.order).bytes
