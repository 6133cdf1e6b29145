use Rattle.std.proofs.Common.{arith}
use Rattle.opclass.specs.declared.types.ColType.TheVariants.{Int8Array}
use Rattle.spool.proofs.Storable.{entries_storable}
use Rattle.sort_tests.proofs.spools.gathers.put.Goals as goal

pub put-requires : goal.put-requires
put-requires c =
    entries_storable Int8Array c.args.value.now _ c.requires.typed c.requires.short (omega arith, omega (arith, c.ranges.offset.fits))
