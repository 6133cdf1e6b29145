use Rattle.std.proofs.Common.{[], ◌∷◌}
use Rattle.run_merge.specs.Sorted.{HaveOrder}
use Rattle.sort_tests.proofs.merges.tape_of.Given as goal

abbrev pub invariant-loop-rows : goal.invariant-loop-rows
invariant-loop-rows l = HaveOrder (l.part ∷ []) l.tape
