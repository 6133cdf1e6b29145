use Rattle.std.proofs.Common.{◌≡◌, ◌+◌, drop, option_and_then}
use Rattle.stmt_token.specs.Borrowed.{name_of, value_of}
use Rattle.index_stmt.specs.Columns.{column_from}
use Rattle.index_stmt.proofs.columns.column_named.Given as goal

abbrev pub invariant-loop-index : goal.invariant-loop-index
invariant-loop-index l =
    let name = option_and_then name_of (value_of l.fn.token) in
    option_and_then (column_from (1 + l.index) (drop l.index l.columns)) name
    ≡ option_and_then (column_from 1 l.columns) name
