use Rattle.std.proofs.Common.{ℕ, ap, sym, subst}
use Rattle.std.specs.Prelude.{◌==◌}
use Rattle.btree_pack.specs.Pass.Added.{HasAdded}
use Rattle.btree_pack.proofs.Adding.{file-of-runs}
use Rattle.btree_pack.proofs.run_packer.RunPacker.finish.Goals as goal

pub returns-clause-file : goal.returns-clause-file
returns-clause-file c =
    λ spec kinds rows has.
    file-of-runs spec kinds rows (record { runs = c.self.inside.runs; spent = c.self.inside.spent }) _ c.in_ok-file.file
    (subst (HasAdded spec kinds rows) (sym c.self.view_is) has) (ap (λ (n : ℕ). c.self.inside.runs.keys == n) c.len.ensures) c.in_ok-file.ensures.file
