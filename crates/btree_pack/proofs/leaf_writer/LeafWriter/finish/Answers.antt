use Rattle.std.proofs.Common.{sym, ap, ◌∙◌, subst, Bool}
use Rattle.btree_pack.specs.Pass.Written.{HasWritten, Writing}
use Rattle.btree_pack.proofs.leaf_writer.LeafWriter.finish.Goals as goal

pub returns-clause-leaves : goal.returns-clause-leaves
returns-clause-leaves c =
    λ spec kinds rows has.
    let writing : Bool → Writing = λ b. record { rows = c.self.inside.rows; leaves = c.self.inside.leaves; first = c.self.inside.first; spent = b } in
    c.in_ok-run.ensures spec kinds rows (subst (HasWritten spec kinds rows) (sym c.self.view_is ∙ ap writing c.if-spent.false) has)
