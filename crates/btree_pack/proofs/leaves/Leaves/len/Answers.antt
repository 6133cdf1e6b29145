use Rattle.std.proofs.Common.{length, sym, ap, ◌∙◌}
use Rattle.btree_pack.proofs.LeafBuffer.{length-leaves_cut}
use Rattle.btree_pack.proofs.leaves.Leaves.len.Goals as goal

pub returns : goal.returns
returns c =
    c.len.ensures ∙ c.self.inside.sizes.ok.0
    ∙ sym (length-leaves_cut c.self.inside.sizes.items c.self.inside.tuples.items c.self.inside.separators.items) ∙ ap length c.self.view_is
