-- Indexes as they are printed: in tokens, with all said that may be left out, names quoted.
use Rattle.std.specs.Prelude.{ℕ, zero, suc, ◌-◌, ℤ, pos, negsuc, Bool, true, false, codes, if◌then◌else◌, Option, List, [], ◌∷◌, ◌++◌, map, slice_get}
use Rattle.std.specs.Option.{option_map_or}
use Rattle.stmt_token.specs.declared.sign.Sign.{Sign as SignKind}
use Rattle.stmt_token.specs.declared.sign.Sign.TheVariants as sign
use Rattle.stmt_token.specs.Tokens.{TokenValue, Word, Quoted, Number, Text, Sign}
use Rattle.opclass.specs.declared.types.Compared.{Compared}
use Rattle.opclass.specs.declared.types.Compared.TheVariants.{WithTruth}
use Rattle.opclass.specs.declared.types.Method.{Method}
use Rattle.opclass.specs.declared.types.Method.TheVariants as method
use Rattle.opclass.specs.declared.filter.Op.{Op}
use Rattle.opclass.specs.declared.filter.Op.TheVariants.{Eq, Ne, Lt, Le, Gt, Ge}
use Rattle.opclass.specs.declared.filter.Test.{Test}
use Rattle.opclass.specs.declared.filter.Test.TheVariants.{IsNull, NotNull, Num, Raw}
use Rattle.opclass.specs.declared.filter.Cond.{Cond}
use Rattle.opclass.specs.declared.spec.IndexSpec.{IndexSpec}
use Rattle.opclass.specs.declared.spec.KeyCol.{KeyCol}
use Rattle.opclass.specs.declared.table.Column.{Column}
use Rattle.opclass.specs.declared.table.Table.{Table}
use Rattle.opclass.specs.Types.{facts_of}
use Rattle.index_stmt.specs.Printer.{enclosed, with_between}

-- the column of a table that has this number
abbrev pub column_at : Table → ℕ → Option Column
column_at table number = slice_get table.columns (number - 1)

-- a column by its name
abbrev pub name_tokens : Table → ℕ → List TokenValue
name_tokens table number = option_map_or (λ column. Quoted column.name ∷ []) (column_at table number) []

-- how a key is sorted, which a B-tree alone has
abbrev pub sort_tokens : Method → KeyCol → List TokenValue
sort_tokens method.BTree key =
    (if key.descending then Word (codes "desc") else Word (codes "asc"))
    ∷ Word (codes "nulls")
    ∷ (if key.nulls_first then Word (codes "first") else Word (codes "last")) ∷ []
sort_tokens other key = []

-- a key column
abbrev pub key_tokens : Table → Method → KeyCol → List TokenValue
key_tokens table method key = name_tokens table key.column ++ sort_tokens method key

-- the INCLUDE columns, where there are any
abbrev pub include_tokens : Table → List ℕ → List TokenValue
include_tokens table [] = []
include_tokens table (number ∷ numbers) =
    Word (codes "include") ∷ enclosed (map (name_tokens table) (number ∷ numbers))

-- whether nulls are distinct, which a unique index alone has
abbrev pub distinct_tokens : Bool → Bool → List TokenValue
distinct_tokens true true = Word (codes "nulls") ∷ Word (codes "distinct") ∷ []
distinct_tokens true false = Word (codes "nulls") ∷ Word (codes "not") ∷ Word (codes "distinct") ∷ []
distinct_tokens false distinct = []

-- an option that is a number
abbrev pub number_option : List ℕ → ℕ → List TokenValue
number_option name number = Word name ∷ Sign sign.Equal ∷ Number number ∷ []

-- an option that is on or off
abbrev pub truth_option : List ℕ → Bool → List TokenValue
truth_option name on = Word name ∷ Sign sign.Equal ∷ (if on then Word (codes "on") else Word (codes "off")) ∷ []

-- the options of each method; fastupdate is without effect
abbrev pub settings_tokens : Method → IndexSpec → List (List TokenValue)
settings_tokens method.BTree spec =
    number_option (codes "fillfactor") spec.fillfactor
    ∷ truth_option (codes "deduplicate_items") spec.deduplicate ∷ []
settings_tokens method.Brin spec = number_option (codes "pages_per_range") spec.pages_per_range ∷ []
settings_tokens method.Gin spec = truth_option (codes "fastupdate") true ∷ []

-- the sign of an operator
abbrev pub sign_of : Op → SignKind
sign_of Eq = sign.Equal
sign_of Ne = sign.NotEqual
sign_of Lt = sign.Less
sign_of Le = sign.LessEqual
sign_of Gt = sign.Greater
sign_of Ge = sign.GreaterEqual

-- a number, and a truth value
abbrev pub number_tokens : ℤ → List TokenValue
number_tokens (pos number) = Number number ∷ []
number_tokens (negsuc number) = Sign sign.Minus ∷ Number (suc number) ∷ []

abbrev pub truth_tokens : ℤ → List TokenValue
truth_tokens (pos zero) = Word (codes "false") ∷ []
truth_tokens other = Word (codes "true") ∷ []

-- what a column of a type that is compared so is compared with
abbrev pub value_tokens : Compared → ℤ → List TokenValue
value_tokens WithTruth value = truth_tokens value
value_tokens compared value = number_tokens value

abbrev pub test_tokens : Compared → Test → List TokenValue
test_tokens compared IsNull = Word (codes "is") ∷ Word (codes "null") ∷ []
test_tokens compared NotNull = Word (codes "is") ∷ Word (codes "not") ∷ Word (codes "null") ∷ []
test_tokens compared (Num op value) = Sign (sign_of op) ∷ value_tokens compared value
test_tokens compared (Raw op bytes) = Sign (sign_of op) ∷ Text bytes ∷ []

-- a condition
abbrev pub condition_tokens : Table → Cond → List TokenValue
condition_tokens table condition =
    option_map_or
    (λ column. Quoted column.name ∷ test_tokens (facts_of column.kind).compared condition.test)
    (column_at table condition.column) []

-- the conditions, where there are any
abbrev pub filter_tokens : Table → List Cond → List TokenValue
filter_tokens table [] = []
filter_tokens table (condition ∷ conditions) =
    Word (codes "where") ∷ with_between (Word (codes "and")) (map (condition_tokens table) (condition ∷ conditions))

abbrev pub uniqueness_tokens : Bool → List TokenValue
uniqueness_tokens true = Word (codes "unique") ∷ []
uniqueness_tokens false = []

abbrev pub method_word : Method → List ℕ
method_word method.BTree = codes "btree"
method_word method.Brin = codes "brin"
method_word method.Gin = codes "gin"

-- an index up to its columns
abbrev pub head_tokens : Table → IndexSpec → List TokenValue
head_tokens table spec =
    Word (codes "create") ∷ uniqueness_tokens spec.unique
    ++ Word (codes "index") ∷ Quoted spec.name ∷ Word (codes "on") ∷ Quoted table.name
    ∷ Word (codes "using") ∷ Word (method_word spec.method) ∷ []

-- what stands behind an index's columns
abbrev pub tail_tokens : Table → IndexSpec → List TokenValue
tail_tokens table spec =
    distinct_tokens spec.unique spec.nulls_distinct
    ++ (Word (codes "with") ∷ enclosed (settings_tokens spec.method spec) ++ filter_tokens table spec.filter)

-- an index
abbrev pub index_tokens : Table → IndexSpec → List TokenValue
index_tokens table spec =
    head_tokens table spec
    ++ (enclosed (map (key_tokens table spec.method) spec.keys)
    ++ (include_tokens table spec.includes ++ tail_tokens table spec))
