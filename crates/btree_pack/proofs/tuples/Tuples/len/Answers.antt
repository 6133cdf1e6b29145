use Rattle.std.proofs.Common.{length, sym, ap, ◌∙◌}
use Rattle.btree_pack.proofs.Buffer.{length-cut_by}
use Rattle.btree_pack.proofs.tuples.Tuples.len.Goals as goal

pub returns : goal.returns
returns c =
    c.len.ensures ∙ c.self.inside.sizes.ok.0 ∙ sym (length-cut_by c.self.inside.sizes.items c.self.inside.bytes.items)
    ∙ ap length c.self.view_is
