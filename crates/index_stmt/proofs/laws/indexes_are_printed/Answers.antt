use Rattle.index_stmt.proofs.PrintedIndexes.{indexes_printed}
use Rattle.index_stmt.proofs.laws.indexes_are_printed.Goals as goal

pub returns : goal.returns
returns c = indexes_printed
