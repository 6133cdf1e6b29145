use Rattle.std.proofs.Common.{[], ◌∷◌, All}
use Rattle.shared_tape.specs.Stored.{IsStorable}
use Rattle.sort_tests.proofs.merges.run_of.Given as goal

abbrev pub invariant-loop-row : goal.invariant-loop-row
invariant-loop-row l = All (IsStorable (l.part ∷ [])) l.records.items
