use Rattle.std.proofs.Common.{◌∙◌, sym, arith, option_and_then, rules}
use Rattle.stmt_token.specs.Borrowed.{name_of, value_of}
use Rattle.index_stmt.proofs.ColumnNames.{passed_column, this_column}
use Rattle.index_stmt.proofs.columns.column_named.Goals as goal

pub loop-index-preserved : goal.loop-index-preserved
loop-index-preserved c =
    sym (passed_column c.args.columns.now c.loop-index.index c.index-columns-index.result
    (option_and_then name_of (value_of c.args.token)) (omega arith) c.index-columns-index.is (λ same. search rules))
    ∙ c.loop-index.invariant

pub returns-then-is_name : goal.returns-then-is_name
returns-then-is_name c =
    sym (this_column c.args.columns.now c.loop-index.index c.index-columns-index.result
    (option_and_then name_of (value_of c.args.token)) (omega arith) c.index-columns-index.is (search rules))
    ∙ c.loop-index.invariant
