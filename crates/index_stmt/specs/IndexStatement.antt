-- The statement of an index (IndexStmt and index_elem of gram.y; DefineIndex of indexcmds.c, INDEX_MAX_KEYS).
use Rattle.std.specs.Prelude.{ℕ, Bool, true, false, not, ◌&&◌, ◌+◌, codes, nat_lt, if◌then◌else◌, List, [], ◌∷◌, ◌++◌, length, Option, Some, None, Result, Ok, Err}
use Rattle.std.specs.Option.{option_map_or}
use Rattle.std.specs.Str.{bytes_eq}
use Rattle.stmt_token.specs.declared.sign.Sign.TheVariants.{LeftParen, RightParen, Comma}
use Rattle.opclass.specs.declared.types.Method.{Method}
use Rattle.opclass.specs.declared.types.Method.TheVariants as method
use Rattle.opclass.specs.declared.table.Table.{Table}
use Rattle.opclass.specs.declared.spec.KeyCol.{KeyCol}
use Rattle.opclass.specs.declared.spec.IndexSpec.{IndexSpec}
use Rattle.opclass.specs.Types.{facts_of, takes_key}
use Rattle.opclass.specs.Indexes.{most_columns}
use Rattle.index_stmt.specs.declared.fault.StmtCause.{StmtCause}
use Rattle.index_stmt.specs.declared.fault.StmtCause.TheVariants.{UnknownName, NotAllowed}
use Rattle.index_stmt.specs.Rule.{Rule, ◌>>=◌, ◌>>◌, clause, done, if_next, is_sign, is_word, meaning, separated, sign, token_as, word}
use Rattle.index_stmt.specs.Names.{name as name_rule, qualified, word_in}
use Rattle.index_stmt.specs.declared.index_statement.Head.{Head}
use Rattle.index_stmt.specs.declared.columns.Found.{Found}
use Rattle.index_stmt.specs.Columns.{collation, column_named}
use Rattle.index_stmt.specs.Options.{fillfactor_of, deduplicate_of, pages_per_range_of, options}
use Rattle.index_stmt.specs.Conditions.{filter_rule}
use Rattle.index_stmt.specs.TableStatement.{end_of_statement}

abbrev pub is_btree : Method → Bool
is_btree method.BTree = true
is_btree other = false

-- a column of the index, where it has so many already: it is the table's, its type is one that the method takes, and
-- there is room for it
abbrev pub index_column : Table → Method → ℕ → List ℕ → Result Found StmtCause
index_column table method columns name =
    option_map_or
    (λ column.
    if takes_key method (facts_of column.kind).key_use && nat_lt columns (most_columns method) then Ok column
    else Err NotAllowed)
    (column_named table.columns name) (Err UnknownName)

-- [ASC | DESC]: whether the column is descending
unfoldable pub direction : Method → Rule Bool
direction method =
    clause (is_word (codes "asc")) (is_btree method) (done false)
    (clause (is_word (codes "desc")) (is_btree method) (done true) (done false))

-- [NULLS (FIRST | LAST)]: whether nulls stand first, which they do of themselves in a descending column
unfoldable pub nulls_order : Method → Bool → Rule Bool
nulls_order method descending =
    clause (is_word (codes "nulls")) (is_btree method)
    (if_next (is_word (codes "first")) (done true) (word (codes "last") >> done false))
    (done descending)

-- key = name [collate] [ASC | DESC] [NULLS (FIRST | LAST)]
unfoldable pub key : Table → Method → List KeyCol → Rule (List KeyCol)
key table method keys = do
  column ← meaning name_rule (index_column table method (length keys))
  collation column.kind
  descending ← direction method
  nulls_first ← nulls_order method descending
  done (keys ++ record { column = column.number; descending = descending; nulls_first = nulls_first } ∷ [])

-- a name among INCLUDE's, behind so many key columns
unfoldable pub included : Table → ℕ → List ℕ → Rule (List ℕ)
included table keys columns = do
  column ← meaning name_rule (index_column table method.BTree (keys + length columns))
  done (columns ++ column.number ∷ [])

-- "(" name {"," name} ")"
unfoldable pub include_list : Table → ℕ → Rule (List ℕ)
include_list table keys = do
  sign LeftParen
  columns ← separated (is_sign Comma) (included table keys) []
  sign RightParen
  done columns

-- [INCLUDE "(" name {"," name} ")"]
unfoldable pub includes : Table → Method → ℕ → Rule (List ℕ)
includes table method keys =
    clause (is_word (codes "include")) (is_btree method)
    (include_list table keys) (done [])

-- [NULLS [NOT] DISTINCT]: whether nulls are distinct
unfoldable pub distinctness : Bool → Rule Bool
distinctness unique =
    clause (is_word (codes "nulls")) unique
    (if_next (is_word (codes "not")) (word (codes "distinct") >> done false) (word (codes "distinct") >> done true))
    (done true)

-- [UNIQUE]
unfoldable pub uniqueness : Rule Bool
uniqueness = if_next (is_word (codes "unique")) (done true) (done false)

abbrev pub method_named : List ℕ → Option Method
method_named word =
    if bytes_eq word (codes "btree") then Some method.BTree
    else if bytes_eq word (codes "brin") then Some method.Brin
    else if bytes_eq word (codes "gin") then Some method.Gin
    else None

-- only a B-tree is unique
abbrev pub known_method : Bool → List ℕ → Result Method StmtCause
known_method unique word =
    option_map_or (λ method. if unique && not (is_btree method) then Err NotAllowed else Ok method) (method_named word)
    (Err NotAllowed)

-- [USING word]
unfoldable pub method_rule : Bool → Rule Method
method_rule unique =
    if_next (is_word (codes "using")) (meaning (token_as word_in) (known_method unique)) (done method.BTree)

-- the index is on this table
abbrev pub this_table : Table → List ℕ → Result Unit StmtCause
this_table table name = if bytes_eq table.name name then Ok tt else Err UnknownName

-- CREATE [UNIQUE] INDEX name ON qname [USING word]
unfoldable pub index_head : Table → Rule Head
index_head table = do
  word (codes "create")
  unique ← uniqueness
  word (codes "index")
  name ← name_rule
  word (codes "on")
  qualified (meaning name_rule (this_table table))
  method ← method_rule unique
  done (record { name = name; unique = unique; method = method })

-- "(" key {"," key} ")"
unfoldable pub key_list : Table → Method → Rule (List KeyCol)
key_list table method = do
  sign LeftParen
  keys ← separated (is_sign Comma) (key table method) []
  sign RightParen
  done keys

-- index = CREATE [UNIQUE] INDEX name ON qname [USING word]
--         "(" key {"," key} ")" [INCLUDE "(" name {"," name} ")"]
--         [NULLS [NOT] DISTINCT] [WITH "(" option {"," option} ")"] [WHERE conj] [";"]
unfoldable pub index_statement : Table → Rule IndexSpec
index_statement table = do
  head ← index_head table
  keys ← key_list table head.method
  columns ← includes table head.method (length keys)
  distinct ← distinctness head.unique
  settings ← options head.method
  conditions ← filter_rule table
  end_of_statement
  done (record {
    name = head.name;
    method = head.method;
    unique = head.unique;
    nulls_distinct = distinct;
    keys = keys;
    includes = columns;
    fillfactor = fillfactor_of settings;
    deduplicate = deduplicate_of settings;
    pages_per_range = pages_per_range_of settings;
    filter = conditions;
  })
