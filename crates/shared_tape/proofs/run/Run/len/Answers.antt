use Rattle.shared_tape.proofs.RunSteps.{view_is_run}
use Rattle.shared_tape.proofs.run.Run.len.Goals as goal

pub returns-clause-run : goal.returns-clause-run
returns-clause-run c = view_is_run _ _ _ _ _ c.self.invariant c.self.view_is
