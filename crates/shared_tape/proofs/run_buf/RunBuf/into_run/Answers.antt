use Rattle.std.proofs.Common.{subst, sym}
use Rattle.shared_tape.specs.Runs.{IsRun}
use Rattle.shared_tape.proofs.RunSteps.{sound_is_run}
use Rattle.shared_tape.proofs.run_buf.RunBuf.into_run.Goals as goal

pub returns-clause-records : goal.returns-clause-records
returns-clause-records c = rw (c.of.ensures, ← c.self.view_is) (rw c.deref.ensures.value at c.lay_sorted.ensures.records)

pub returns-clause-run : goal.returns-clause-run
returns-clause-run c = subst IsRun (sym c.of.ensures) (sound_is_run _ _ _ 0 c.lay_sorted.ensures.run)
