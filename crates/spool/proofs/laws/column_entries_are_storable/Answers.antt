use Rattle.spool.proofs.Storable.{entries_storable}
use Rattle.spool.proofs.laws.column_entries_are_storable.Goals as goal

pub returns : goal.returns
returns c = entries_storable
