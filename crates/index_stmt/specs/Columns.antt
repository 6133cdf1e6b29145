-- The columns of a table by their names, and what may stand behind a column in both statements.
use Rattle.std.specs.Prelude.{ℕ, ◌+◌, Bool, false, codes, if◌then◌else◌, List, [], ◌∷◌, Option, Some, None, Result, Ok, Err}
use Rattle.std.specs.Option.{option_map_or, option_and_then}
use Rattle.std.specs.Str.{bytes_eq}
use Rattle.stmt_token.specs.declared.sign.Sign.TheVariants.{Dot}
use Rattle.stmt_token.specs.Tokens.{TokenValue}
use Rattle.stmt_token.specs.Tokens.{Quoted}
use Rattle.opclass.specs.declared.types.ColType.{ColType}
use Rattle.opclass.specs.declared.table.Column.{Column}
use Rattle.opclass.specs.declared.table.Table.{Table}
use Rattle.opclass.specs.Types.{facts_of}
use Rattle.index_stmt.specs.declared.fault.StmtCause.{StmtCause}
use Rattle.index_stmt.specs.declared.fault.StmtCause.TheVariants.{UnknownName}
use Rattle.index_stmt.specs.declared.columns.Found.{Found}
use Rattle.index_stmt.specs.Rule.{Rule, ◌>>◌, clause, done, expected, if_next, is_word, sign}

-- the column of this name among those from a number on
abbrev pub column_from : ℕ → List Column → List ℕ → Option Found
column_from number [] name = None
column_from number (column ∷ columns) name =
    if bytes_eq column.name name then Some (record { number = number; kind = column.kind })
    else column_from (number + 1) columns name

-- the column of a table that has this name
abbrev pub column_named : List Column → List ℕ → Option Found
column_named columns name = column_from 1 columns name

-- the column that has this name, where there is one
abbrev pub column_of : List Column → Option (List ℕ) → Option Found
column_of columns name = option_and_then (column_named columns) name

-- a name has to be a column's
abbrev pub known_column : Table → List ℕ → Result Found StmtCause
known_column table name = option_map_or Ok (column_named table.columns name) (Err UnknownName)

-- the collation "C"
abbrev pub is_c : TokenValue → Bool
is_c (Quoted bytes) = bytes_eq bytes (codes "C")
is_c other = false

-- [collate]: COLLATE [pg_catalog "."] "C", on a type that has a collation
unfoldable pub collation : ColType → Rule Unit
collation kind =
    clause (is_word (codes "collate")) (facts_of kind).collated
    (if_next (is_word (codes "pg_catalog")) (sign Dot >> expected is_c) (expected is_c))
    (done tt)
