use Rattle.std.proofs.Common.{ap, subst}
use Rattle.btree_pack.specs.Pass.Added.{Adding, AreRunsReady, HasAddedAll}
use Rattle.btree_pack.proofs.Adding.{added-all}
use Rattle.btree_pack.proofs.run_packer.RunPacker.add.Goals as goal

pub returns-clause-ok : goal.returns-clause-ok
returns-clause-ok c =
    λ spec kinds rows more has are part.
    let a = c.in_ok-add_run.ensures in
    let same = ap (λ (p : Adding). p.runs) c.self.view_is in
    added-all spec kinds rows more c.args.self.now _ c.args.run has are part a.run (subst AreRunsReady same (c.self.invariant c.if-self.false))
    (subst (λ r. HasAddedAll r c.add_run.new.runs c.args.run) same a.added)
