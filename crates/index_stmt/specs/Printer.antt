-- Tables as they are printed: in tokens, with one spelling of each type, names quoted.
use Rattle.std.specs.Prelude.{codes, List, [], ◌∷◌, ◌++◌, map}
use Rattle.stmt_token.specs.declared.sign.Sign.TheVariants.{LeftParen, RightParen, LeftBracket, RightBracket, Comma}
use Rattle.stmt_token.specs.Tokens.{TokenValue, Word, Quoted, Sign}
use Rattle.opclass.specs.declared.types.ColType.{ColType}
use Rattle.opclass.specs.declared.types.ColType.TheVariants as ty
use Rattle.opclass.specs.declared.table.Column.{Column}
use Rattle.opclass.specs.declared.table.Table.{Table}

-- items with a token between them
abbrev pub with_between : TokenValue → List (List TokenValue) → List TokenValue
with_between token [] = []
with_between token (item ∷ []) = item
with_between token (item ∷ next ∷ items) = item ++ token ∷ with_between token (next ∷ items)

-- items in parentheses, with commas between them
abbrev pub enclosed : List (List TokenValue) → List TokenValue
enclosed items = Sign LeftParen ∷ with_between (Sign Comma) items ++ Sign RightParen ∷ []

-- a type, in one of its spellings
abbrev pub type_tokens : ColType → List TokenValue
type_tokens ty.Bool = Word (codes "bool") ∷ []
type_tokens ty.Int2 = Word (codes "int2") ∷ []
type_tokens ty.Int4 = Word (codes "int4") ∷ []
type_tokens ty.Int8 = Word (codes "int8") ∷ []
type_tokens ty.Oid = Word (codes "oid") ∷ []
type_tokens ty.Date = Word (codes "date") ∷ []
type_tokens ty.Timestamp = Word (codes "timestamp") ∷ []
type_tokens ty.Timestamptz = Word (codes "timestamptz") ∷ []
type_tokens ty.Time = Word (codes "time") ∷ []
type_tokens ty.Uuid = Word (codes "uuid") ∷ []
type_tokens ty.Text = Word (codes "text") ∷ []
type_tokens ty.Varchar = Word (codes "varchar") ∷ []
type_tokens ty.Bytea = Word (codes "bytea") ∷ []
type_tokens ty.Float4 = Word (codes "float4") ∷ []
type_tokens ty.Float8 = Word (codes "float8") ∷ []
type_tokens ty.Numeric = Word (codes "numeric") ∷ []
type_tokens ty.Bpchar = Word (codes "bpchar") ∷ []
type_tokens ty.Name = Word (codes "name") ∷ []
type_tokens ty.Interval = Word (codes "interval") ∷ []
type_tokens ty.Json = Word (codes "json") ∷ []
type_tokens ty.Jsonb = Word (codes "jsonb") ∷ []
type_tokens ty.Int4Array = Word (codes "int4") ∷ Sign LeftBracket ∷ Sign RightBracket ∷ []
type_tokens ty.Int8Array = Word (codes "int8") ∷ Sign LeftBracket ∷ Sign RightBracket ∷ []
type_tokens ty.TextArray = Word (codes "text") ∷ Sign LeftBracket ∷ Sign RightBracket ∷ []

-- a column
abbrev pub column_tokens : Column → List TokenValue
column_tokens column = Quoted column.name ∷ type_tokens column.kind

-- a table
abbrev pub table_tokens : Table → List TokenValue
table_tokens table =
    Word (codes "create") ∷ Word (codes "table") ∷ Quoted table.name ∷ enclosed (map column_tokens table.columns)
