use Rattle.std.proofs.Common.{take}
use Rattle.std.specs.Prelude.{All}
use Rattle.shared_tape.specs.Stored.{IsStorable}
use Rattle.sort_tests.proofs.tapes.run_of.Given as goal

abbrev pub invariant-loop-row : goal.invariant-loop-row
invariant-loop-row l = All (IsStorable l.order) (take l.row-index l.row-items)
