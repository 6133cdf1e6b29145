use Rattle.btree_pack.proofs.Buffer.{cut_by-all}
use Rattle.btree_pack.proofs.tuples.Tuples.push_all.Goals as goal

pub returns-clause-ok : goal.returns-clause-ok
returns-clause-ok c =
    rw (c.push_sizes.ensures, c.push_reserved.ensures.items, c.in_ok-extend_from_slice-2.ensures.items, c.in_ok-extend_from_slice.ensures.items, c.in_ok-reserve-2.ensures.items, c.in_ok-reserve.ensures.items, ← c.self.view_is)
    (cut_by-all c.self.inside.sizes.items c.self.inside.bytes.items c.args.tuple.now _ c.args.bytes.now c.self.invariant)
