use Rattle.std.proofs.Common.{[], ◌∷◌}
use Rattle.run_merge.specs.Sorted.{AllHaveOrder}
use Rattle.sort_tests.proofs.merges.tapes_of.Given as goal

abbrev pub invariant-loop-runs : goal.invariant-loop-runs
invariant-loop-runs l = AllHaveOrder (l.part ∷ []) l.list
