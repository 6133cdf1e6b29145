use Rattle.btree_pack.proofs.Buffer.{cut_by-none}
use Rattle.btree_pack.proofs.tuples.Tuples.is_empty.Goals as goal

pub returns : goal.returns
returns c =
    rw (← c.self.view_is, c.is_empty.ensures, c.self.inside.sizes.ok.0)
    (cut_by-none c.self.inside.sizes.items c.self.inside.bytes.items)
