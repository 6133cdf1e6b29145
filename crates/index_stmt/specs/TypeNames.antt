-- Types by their words (SimpleTypename of gram.y, with the names of pg_type.dat).
use Rattle.std.specs.Prelude.{ℕ, Bool, true, false, codes, nat_lt, if◌then◌else◌, List, [], ◌∷◌, Option, Some, None, Ok, Err, find}
use Rattle.std.specs.Option.{option_map}
use Rattle.std.specs.Str.{bytes_eq}
use Rattle.stmt_token.specs.declared.sign.Sign.TheVariants.{LeftParen, RightParen, LeftBracket, RightBracket, Comma}
use Rattle.stmt_token.specs.Tokens.{TokenValue}
use Rattle.stmt_token.specs.Tokens.{Word, Quoted, Number}
use Rattle.opclass.specs.declared.types.ColType.{ColType}
use Rattle.opclass.specs.declared.types.ColType.TheVariants as ty
use Rattle.index_stmt.specs.declared.fault.StmtCause.TheVariants.{NoToken, UnknownType}
use Rattle.index_stmt.specs.declared.type_name.TypeStart.{TypeStart}
use Rattle.index_stmt.specs.declared.type_name.TypeStart.TheVariants.{Whole, Element, Sized, Character, Decimal, Double, Time, Timestamp}
use Rattle.index_stmt.specs.Rule.{Read, Rule, ◌>>=◌, ◌>>◌, done, if_next, is_sign, is_word, next_is, other_token, sign, token_as, word}

-- the words that begin a type, and how it goes on
abbrev pub type_words : List (List ℕ × TypeStart)
type_words =
    (codes "bool", Whole ty.Bool) ∷ (codes "boolean", Whole ty.Bool)
    ∷ (codes "int2", Whole ty.Int2) ∷ (codes "smallint", Whole ty.Int2)
    ∷ (codes "int4", Element ty.Int4 ty.Int4Array) ∷ (codes "int", Element ty.Int4 ty.Int4Array)
    ∷ (codes "integer", Element ty.Int4 ty.Int4Array)
    ∷ (codes "int8", Element ty.Int8 ty.Int8Array) ∷ (codes "bigint", Element ty.Int8 ty.Int8Array)
    ∷ (codes "oid", Whole ty.Oid) ∷ (codes "date", Whole ty.Date)
    ∷ (codes "timestamp", Timestamp) ∷ (codes "timestamptz", Whole ty.Timestamptz) ∷ (codes "time", Time)
    ∷ (codes "uuid", Whole ty.Uuid) ∷ (codes "text", Element ty.Text ty.TextArray)
    ∷ (codes "varchar", Sized ty.Varchar) ∷ (codes "character", Character) ∷ (codes "char", Sized ty.Bpchar)
    ∷ (codes "bpchar", Whole ty.Bpchar) ∷ (codes "bytea", Whole ty.Bytea)
    ∷ (codes "float4", Whole ty.Float4) ∷ (codes "real", Whole ty.Float4)
    ∷ (codes "float8", Whole ty.Float8) ∷ (codes "double", Double)
    ∷ (codes "numeric", Decimal) ∷ (codes "decimal", Decimal)
    ∷ (codes "name", Whole ty.Name) ∷ (codes "interval", Whole ty.Interval)
    ∷ (codes "json", Whole ty.Json) ∷ (codes "jsonb", Whole ty.Jsonb) ∷ []

-- how a type goes on that begins with a token
abbrev pub start_in : TokenValue → Option TypeStart
start_in (Word word) = option_map (λ row. row.1) (find (λ row. bytes_eq word row.0) type_words)
start_in other = None

-- the number that a token is, which has at most 18 digits
abbrev pub number_in : TokenValue → Option ℕ
number_in (Number number) = if nat_lt number 1000000000000000000 then Some number else None
number_in other = None

abbrev pub number : Rule ℕ
number = token_as number_in

-- [(n)]
unfoldable pub size : Rule Unit
size = if_next (is_sign LeftParen) (number >> sign RightParen) (done tt)

-- [(n [, n])]
unfoldable pub precision : Rule Unit
precision =
    if_next (is_sign LeftParen)
    (number >> if_next (is_sign Comma) (number >> sign RightParen) (sign RightParen))
    (done tt)

-- time zone
unfoldable pub time_zone : Rule Unit
time_zone = word (codes "time") >> word (codes "zone")

-- [(n)] [without time zone]
unfoldable pub time : Rule ColType
time = size >> if_next (is_word (codes "without")) (time_zone >> done ty.Time) (done ty.Time)

-- [(n)] [(with | without) time zone]
unfoldable pub timestamp : Rule ColType
timestamp =
    size >> if_next (is_word (codes "with")) (time_zone >> done ty.Timestamptz)
    (if_next (is_word (codes "without")) (time_zone >> done ty.Timestamp) (done ty.Timestamp))

-- the type, or with [ ] behind it that of its arrays
abbrev pub element_or_array : ColType → ColType → Rule ColType
element_or_array kind array = if_next (is_sign LeftBracket) (sign RightBracket >> done array) (done kind)

-- the type, which may have a size
abbrev pub sized : ColType → Rule ColType
sized kind = size >> done kind

-- what stands behind the word that begins a type
unfoldable pub type_behind : TypeStart → Rule ColType
type_behind (Whole kind) = done kind
type_behind (Element kind array) = element_or_array kind array
type_behind (Sized kind) = sized kind
type_behind Character = if_next (is_word (codes "varying")) (sized ty.Varchar) (sized ty.Bpchar)
type_behind Decimal = precision >> done ty.Numeric
type_behind Double = word (codes "precision") >> done ty.Float8
type_behind Time = time
type_behind Timestamp = timestamp

-- the words of a type
abbrev pub type_spelling : Rule ColType
type_spelling = token_as start_in >>= type_behind

-- a type may begin with any word, and with a quoted name
abbrev pub begins_type : TokenValue → Bool
begins_type (Word word) = true
begins_type (Quoted bytes) = true
begins_type other = false

-- a type that stops before it is whole is told at its first token, unless what stands there is no token
abbrev pub halfway : {A : Type 0} → List TokenValue → Read A → Read A
halfway begun (Ok read) = Ok read
halfway begun (Err (NoToken, tokens)) = Err (NoToken, tokens)
halfway begun (Err (cause, tokens)) = Err (UnknownType, begun)

-- type
unfoldable pub type_name : Rule ColType
type_name tokens =
    if next_is begins_type tokens
    then halfway tokens (type_spelling tokens)
    else other_token tokens
