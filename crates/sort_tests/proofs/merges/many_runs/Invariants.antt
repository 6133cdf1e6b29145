use Rattle.std.proofs.Common.{[], ◌∷◌}
use Rattle.run_merge.specs.Sorted.{HaveOrder}
use Rattle.sort_tests.specs.declared.merges.TheConstants.{ASCENDING}
use Rattle.sort_tests.proofs.merges.many_runs.Given as goal

abbrev pub invariant-loop-number : goal.invariant-loop-number
invariant-loop-number l = HaveOrder (ASCENDING ∷ []) l.tape
