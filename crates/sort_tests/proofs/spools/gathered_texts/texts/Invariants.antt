use Rattle.std.specs.Prelude.{All}
use Rattle.opclass.specs.Values.{IsElementOf}
use Rattle.opclass.specs.declared.types.ColType.TheVariants.{Text}
use Rattle.spool.specs.Laws.{IsShort}
use Rattle.sort_tests.proofs.spools.gathered_texts.texts.Given as goal

abbrev pub invariant-loop-each : goal.invariant-loop-each
invariant-loop-each l = All (IsElementOf Text) l.elements.items × All IsShort l.elements.items
