use Rattle.std.specs.Prelude.{All}
use Rattle.opclass.specs.Values.{IsElementOf}
use Rattle.opclass.specs.declared.types.ColType.TheVariants.{Int4}
use Rattle.spool.specs.Laws.{IsShort}
use Rattle.sort_tests.proofs.spools.large_gathers.twice.Given as goal

abbrev pub invariant-loop-number : goal.invariant-loop-number
invariant-loop-number l = All (IsElementOf Int4) l.elements.items × All IsShort l.elements.items
