use Rattle.std.proofs.Common.{All, sym, subst}
use Rattle.stmt_token.specs.Spelling.{CanBeQuoted}
use Rattle.stmt_token.proofs.Names.{names_quotable}
use Rattle.index_stmt.specs.Pass.{Ahead}
use Rattle.index_stmt.proofs.Indexes.{index_is}
use Rattle.index_stmt.proofs.Naming.{index_named}
use Rattle.index_stmt.proofs.read.read_index.Goals as goal

pub returns-in-Ok-clause-index : goal.returns-in-Ok-clause-index
returns-in-Ok-clause-index c = index_is _ _ _ _ c.in-Ok.ensures.0

pub returns-in-Ok-clause-named : goal.returns-in-Ok-clause-named
returns-in-Ok-clause-named c =
    index_named _ _ _ _
    (subst (λ (ahead : Ahead). All CanBeQuoted ahead.tokens) (sym c.of-statement.ensures) (names_quotable c.args.text.now))
    c.in-Ok.ensures.0
