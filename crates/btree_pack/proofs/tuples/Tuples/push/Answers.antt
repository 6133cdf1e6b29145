use Rattle.btree_pack.proofs.Buffer.{cut_by-push}
use Rattle.btree_pack.proofs.tuples.Tuples.push.Goals as goal

pub returns-clause-ok : goal.returns-clause-ok
returns-clause-ok c =
    rw (c.push_reserved.ensures.items, c.in_ok-extend_from_slice.ensures.items, c.in_ok-reserve.ensures.items, ← c.self.view_is)
    (cut_by-push c.self.inside.sizes.items c.self.inside.bytes.items c.args.tuple.now c.self.invariant)
