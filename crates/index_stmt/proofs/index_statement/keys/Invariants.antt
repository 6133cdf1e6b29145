use Rattle.std.proofs.Common.{◌≡◌, ◌≤◌, [], length}
use Rattle.stmt_token.specs.declared.sign.Sign.TheVariants.{Comma}
use Rattle.index_stmt.specs.IndexStatement.{key}
use Rattle.index_stmt.specs.Rule.{is_sign, separated}
use Rattle.index_stmt.proofs.index_statement.keys.Given as goal

abbrev pub invariant-loop-keys : goal.invariant-loop-keys
invariant-loop-keys l = record {
  same : separated (is_sign Comma) (key l.table l.method) l.keys l.statement.tokens
      ≡ separated (is_sign Comma) (key l.fn.table l.fn.method) [] l.fn.statement.tokens;
  text : l.statement.text ≡ l.fn.statement.text;
  room : length l.keys ≤ 32;
}

abbrev pub decreases-loop-keys : goal.decreases-loop-keys
decreases-loop-keys l = length l.statement.tokens
