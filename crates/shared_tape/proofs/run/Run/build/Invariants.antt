use Rattle.std.proofs.Common.{◌≡◌}
use Rattle.shared_tape.proofs.run.Run.build.Given as goal

abbrev pub invariant-loop-row : goal.invariant-loop-row
invariant-loop-row l = record { order : l.buf.order ≡ l.fn.order; put : l.buf.records ≡ l.yielded }
