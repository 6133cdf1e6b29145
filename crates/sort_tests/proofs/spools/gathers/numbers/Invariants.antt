use Rattle.std.specs.Prelude.{All}
use Rattle.opclass.specs.Values.{IsElementOf}
use Rattle.opclass.specs.declared.types.ColType.TheVariants.{Int8}
use Rattle.spool.specs.Laws.{IsShort}
use Rattle.sort_tests.proofs.spools.gathers.numbers.Given as goal

abbrev pub invariant-loop-each : goal.invariant-loop-each
invariant-loop-each l = All (IsElementOf Int8) l.elements.items × All IsShort l.elements.items
