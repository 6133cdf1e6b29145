use Rattle.std.proofs.Common.{◌≡◌, ◌≤◌, [], length}
use Rattle.stmt_token.specs.declared.sign.Sign.TheVariants.{Comma}
use Rattle.index_stmt.specs.Rule.{is_sign, separated}
use Rattle.index_stmt.specs.TableStatement.{column}
use Rattle.index_stmt.proofs.table_statement.columns.Given as goal

abbrev pub invariant-loop-columns : goal.invariant-loop-columns
invariant-loop-columns l = record {
  same : separated (is_sign Comma) column l.columns l.statement.tokens
      ≡ separated (is_sign Comma) column [] l.fn.statement.tokens;
  text : l.statement.text ≡ l.fn.statement.text;
  room : length l.columns ≤ 1600;
}

abbrev pub decreases-loop-columns : goal.decreases-loop-columns
decreases-loop-columns l = length l.statement.tokens
