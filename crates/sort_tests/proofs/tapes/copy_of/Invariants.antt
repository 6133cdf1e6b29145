use Rattle.std.proofs.Common.{◌≡◌, take}
use Rattle.sort_tests.proofs.tapes.copy_of.Given as goal

abbrev pub invariant-loop-at : goal.invariant-loop-at
invariant-loop-at l = record { order : l.copy.order ≡ l.run.order; records : l.copy.records ≡ take l.at l.run.records }
