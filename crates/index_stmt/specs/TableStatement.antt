-- The statement of a table (CreateStmt and columnDef of gram.y; MaxHeapAttributeNumber of htup_details.h).
use Rattle.std.specs.Prelude.{ℕ, codes, nat_lt, if◌then◌else◌, List, [], ◌∷◌, ◌++◌, length, Result, Ok, Err, is_some}
use Rattle.stmt_token.specs.declared.sign.Sign.TheVariants.{LeftParen, RightParen, Comma, Semicolon}
use Rattle.opclass.specs.declared.table.Column.{Column}
use Rattle.opclass.specs.declared.table.Table.{Table}
use Rattle.index_stmt.specs.declared.fault.StmtCause.{StmtCause}
use Rattle.index_stmt.specs.declared.fault.StmtCause.TheVariants.{NotAllowed, Repeated}
use Rattle.index_stmt.specs.Rule.{Rule, ◌>>=◌, ◌>>◌, done, if_next, is_sign, is_word, meaning, other_token, separated, sign, word}
use Rattle.index_stmt.specs.Names.{name, qualified}
use Rattle.index_stmt.specs.TypeNames.{type_name}
use Rattle.index_stmt.specs.Columns.{collation, column_named}

-- a column's name is new, and there is room for one more
abbrev pub new_name : List Column → List ℕ → Result (List ℕ) StmtCause
new_name columns name =
    if is_some (column_named columns name) then Err Repeated
    else if nat_lt (length columns) 1600 then Ok name
    else Err NotAllowed

-- [NOT NULL | NULL]
unfoldable pub nullness : Rule Unit
nullness = if_next (is_word (codes "not")) (word (codes "null")) (if_next (is_word (codes "null")) (done tt) (done tt))

-- column = name type [collate] [NOT NULL | NULL]
unfoldable pub column : List Column → Rule (List Column)
column columns = do
  name ← meaning name (new_name columns)
  kind ← type_name
  collation kind
  nullness
  done (columns ++ record { name = name; kind = kind } ∷ [])

-- the statement ends here
abbrev pub no_more : Rule Unit
no_more [] = Ok (tt, [])
no_more tokens = other_token tokens

-- [";"] and the end
unfoldable pub end_of_statement : Rule Unit
end_of_statement = if_next (is_sign Semicolon) no_more no_more

-- table = CREATE TABLE qname "(" column {"," column} ")" [";"]
unfoldable pub table_statement : Rule Table
table_statement = do
  word (codes "create")
  word (codes "table")
  name ← qualified name
  sign LeftParen
  columns ← separated (is_sign Comma) column []
  sign RightParen
  end_of_statement
  done (record { name = name; columns = columns })
