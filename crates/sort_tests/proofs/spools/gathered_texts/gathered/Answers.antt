use Rattle.std.proofs.Common.{arith}
use Rattle.opclass.specs.declared.types.ColType.TheVariants.{TextArray}
use Rattle.spool.proofs.Storable.{entries_storable}
use Rattle.sort_tests.proofs.spools.gathered_texts.gathered.Goals as goal

pub put-requires : goal.put-requires
put-requires c = entries_storable TextArray c.args.value.now _ c.requires.typed c.requires.short (omega arith, omega arith)
