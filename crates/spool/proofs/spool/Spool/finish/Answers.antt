use Rattle.std.proofs.Common.{arith, subst, sym}
use Rattle.spool.specs.Spools.{SpoolView, AreBoundedRuns}
use Rattle.spool.proofs.spool.Spool.finish.Goals as goal

pub returns-clause-runs : goal.returns-clause-runs
returns-clause-runs c =
    subst (λ (spool : SpoolView). AreBoundedRuns spool.order spool.run_rows c.from_runs.result) c.self.view_is
    (subst (AreBoundedRuns c.self.inside.current.order c.self.inside.run_rows) (sym c.from_runs.ensures)
    (c.in_ok-put_away.ensures.runs c.self.inside.run_rows c.self.invariant.full (omega (arith, c.self.invariant.room))))
