use Rattle.std.proofs.Common.{◌≡◌, length}
use Rattle.stmt_token.specs.declared.sign.Sign.TheVariants.{Comma}
use Rattle.index_stmt.specs.Options.{option, unset}
use Rattle.index_stmt.specs.Rule.{is_sign, separated}
use Rattle.index_stmt.proofs.options.listed.Given as goal

abbrev pub invariant-loop-settings : goal.invariant-loop-settings
invariant-loop-settings l = record {
  same : separated (is_sign Comma) (option l.method) l.settings l.statement.tokens
      ≡ separated (is_sign Comma) (option l.fn.method) unset l.fn.statement.tokens;
  text : l.statement.text ≡ l.fn.statement.text;
}

abbrev pub decreases-loop-settings : goal.decreases-loop-settings
decreases-loop-settings l = length l.statement.tokens
