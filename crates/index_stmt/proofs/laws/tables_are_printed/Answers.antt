use Rattle.index_stmt.proofs.PrintedTables.{tables_printed}
use Rattle.index_stmt.proofs.laws.tables_are_printed.Goals as goal

pub returns : goal.returns
returns c = tables_printed
