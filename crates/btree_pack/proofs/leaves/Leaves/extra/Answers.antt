use Rattle.std.proofs.Common.{arith, ap, length}
use Rattle.btree_pack.proofs.LeafBuffer.{leaf-at, length-leaves_cut}
use Rattle.btree_pack.proofs.leaves.Leaves.extra.Goals as goal

pub index-requires : goal.index-requires
index-requires c =
    let count = length-leaves_cut c.self.inside.sizes.items c.self.inside.tuples.items c.self.inside.separators.items in
    let same = ap length c.self.view_is in
    let o = c.self.inside.sizes.ok.0 in
    let inside = c.requires in
    omega arith

pub returns : goal.returns
returns c =
    rw c.from.ensures
    (leaf-at c.args.self.now c.self.inside.sizes.items c.self.inside.tuples.items c.self.inside.separators.items c.args.number c.index.result.now c.self.view_is c.self.invariant c.requires c.index.ensures).extra
