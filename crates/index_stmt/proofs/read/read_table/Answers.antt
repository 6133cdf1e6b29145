use Rattle.std.proofs.Common.{All, sym, subst}
use Rattle.stmt_token.specs.Spelling.{CanBeQuoted}
use Rattle.stmt_token.proofs.Names.{names_quotable}
use Rattle.index_stmt.specs.Pass.{Ahead}
use Rattle.index_stmt.proofs.Naming.{table_named}
use Rattle.index_stmt.proofs.Tables.{table_is}
use Rattle.index_stmt.proofs.read.read_table.Goals as goal

pub returns-in-Ok-clause-table : goal.returns-in-Ok-clause-table
returns-in-Ok-clause-table c = table_is _ _ _ c.in-Ok.ensures.0

pub returns-in-Ok-clause-named : goal.returns-in-Ok-clause-named
returns-in-Ok-clause-named c =
    table_named _ _ _
    (subst (λ (ahead : Ahead). All CanBeQuoted ahead.tokens) (sym c.of-statement.ensures) (names_quotable c.args.text.now))
    c.in-Ok.ensures.0
