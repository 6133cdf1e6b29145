-- The conditions of an index (where_clause of IndexStmt in gram.y, of a_expr what is built here).
use Rattle.std.specs.Prelude.{ℕ, zero, suc, ℤ, pos, neg_ℤ, Bool, true, false, codes, if◌then◌else◌, List, [], ◌∷◌, ◌++◌, Option, Some, None, Result, Ok, Err}
use Rattle.std.specs.Option.{option_map}
use Rattle.std.specs.Str.{bytes_eq}
use Rattle.stmt_token.specs.declared.sign.Sign.{Sign as SignKind}
use Rattle.stmt_token.specs.declared.sign.Sign.TheVariants as sign
use Rattle.stmt_token.specs.Borrowed.{text_of}
use Rattle.stmt_token.specs.Tokens.{TokenValue}
use Rattle.stmt_token.specs.Tokens.{Word, Number, Text, Sign}
use Rattle.opclass.specs.declared.types.ColType.{ColType}
use Rattle.opclass.specs.declared.types.Compared.{Compared}
use Rattle.opclass.specs.declared.types.Compared.TheVariants.{Never, WithTruth, WithNumber, WithText}
use Rattle.opclass.specs.declared.filter.Op.{Op}
use Rattle.opclass.specs.declared.filter.Op.TheVariants.{Eq, Ne, Lt, Le, Gt, Ge}
use Rattle.opclass.specs.declared.filter.Test.{Test}
use Rattle.opclass.specs.declared.filter.Test.TheVariants.{IsNull, NotNull, Num, Raw}
use Rattle.opclass.specs.declared.filter.Cond.{Cond}
use Rattle.opclass.specs.declared.table.Table.{Table}
use Rattle.opclass.specs.Types.{facts_of}
use Rattle.index_stmt.specs.declared.fault.StmtCause.{StmtCause}
use Rattle.index_stmt.specs.declared.fault.StmtCause.TheVariants.{NotAllowed}
use Rattle.index_stmt.specs.Rule.{Rule, ◌>>=◌, ◌>>◌, clause, done, if_next, is_sign, is_word, meaning, separated, token_as, word}
use Rattle.index_stmt.specs.Rule.{sign as sign_rule}
use Rattle.index_stmt.specs.Names.{name}
use Rattle.index_stmt.specs.TypeNames.{number, number_in, type_name}
use Rattle.index_stmt.specs.Columns.{known_column}

-- IS [NOT] NULL, behind IS
unfoldable pub null_test : Rule Test
null_test =
    if_next (is_word (codes "not")) (word (codes "null") >> done NotNull) (word (codes "null") >> done IsNull)

-- the operators; `<>` and `!=` are one sign
abbrev pub operator_of : SignKind → Option Op
operator_of sign.Equal = Some Eq
operator_of sign.NotEqual = Some Ne
operator_of sign.Less = Some Lt
operator_of sign.LessEqual = Some Le
operator_of sign.Greater = Some Gt
operator_of sign.GreaterEqual = Some Ge
operator_of other = None

abbrev pub operator_in : TokenValue → Option Op
operator_in (Sign sign) = operator_of sign
operator_in other = None

-- what is compared with a truth value is equal or not, and nothing else
abbrev pub known_operator : Compared → Op → Result Op StmtCause
known_operator Never op = Err NotAllowed
known_operator WithTruth Eq = Ok Eq
known_operator WithTruth Ne = Ok Ne
known_operator WithTruth op = Err NotAllowed
known_operator WithNumber op = Ok op
known_operator WithText op = Ok op

-- what a literal is that is one token
pub data Literal : Type 0 where
  OfNumber : ℕ → Literal
  OfText : List ℕ → Literal
  OfTruth : Bool → Literal

-- TRUE | FALSE
abbrev pub truth_literal_in : TokenValue → Option Literal
truth_literal_in (Word word) =
    if bytes_eq word (codes "true") then Some (OfTruth true)
    else if bytes_eq word (codes "false") then Some (OfTruth false)
    else None
truth_literal_in other = None

-- number | string | TRUE | FALSE
abbrev pub literal_in : TokenValue → Option Literal
literal_in (Number number) = option_map OfNumber (number_in (Number number))
literal_in (Text bytes) = Some (OfText bytes)
literal_in token = truth_literal_in token

-- a truth value as a number
abbrev pub truth_number : Bool → ℤ
truth_number truth = pos (if truth then 1 else 0)

-- a literal has to be of the kind that a type is compared with
abbrev pub test_with : Compared → Op → Literal → Result Test StmtCause
test_with WithNumber op (OfNumber number) = Ok (Num op (pos number))
test_with WithText op (OfText bytes) = Ok (Raw op bytes)
test_with WithTruth op (OfTruth truth) = Ok (Num op (truth_number truth))
test_with compared op literal = Err NotAllowed

-- a type is compared with numbers
abbrev pub takes_numbers : Compared → Bool
takes_numbers WithNumber = true
takes_numbers compared = false

-- a string
abbrev pub text_rule : Op → Rule Test
text_rule op = token_as text_of >>= λ bytes. done (Raw op bytes)

-- literal = ["-"] number | string | TRUE | FALSE
unfoldable pub literal : Compared → Op → Rule Test
literal compared op =
    clause (is_sign sign.Minus) (takes_numbers compared)
    (number >>= λ number. done (Num op (neg_ℤ (pos number))))
    (meaning (token_as literal_in) (test_with compared op))

-- ["::" type]
unfoldable pub cast : Rule Unit
cast = if_next (is_sign sign.TypeCast) (type_name >> done tt) (done tt)

-- (= <> != < <= > >=) literal ["::" type]
unfoldable pub comparison : Compared → Rule Test
comparison compared = do
  op ← meaning (token_as operator_in) (known_operator compared)
  test ← literal compared op
  cast
  done test

-- IS [NOT] NULL | (= <> != < <= > >=) literal ["::" type], behind a column of this type
abbrev pub test_rule : ColType → Rule Test
test_rule kind = if_next (is_word (codes "is")) null_test (comparison (facts_of kind).compared)

-- name IS [NOT] NULL | name (= <> != < <= > >=) literal ["::" type]
unfoldable pub condition : Table → List Cond → Rule (List Cond)
condition table conditions = do
  column ← meaning name (known_column table)
  test ← test_rule column.kind
  done (conditions ++ record { column = column.number; test = test } ∷ [])

-- item = "(" conj ")" | condition, where so many parentheses may be open inside one another
abbrev pub item : ℕ → Table → List Cond → Rule (List Cond)
item zero table conditions = condition table conditions
item (suc depth) table conditions =
    if_next (is_sign sign.LeftParen)
    (separated (is_word (codes "and")) (item depth table) conditions
    >>= λ conditions. (sign_rule sign.RightParen >> done conditions))
    (condition table conditions)

-- conj = item {AND item}
unfoldable pub conjunction : ℕ → Table → List Cond → Rule (List Cond)
conjunction depth table conditions = separated (is_word (codes "and")) (item depth table) conditions

-- [WHERE conj]
unfoldable pub filter_rule : Table → Rule (List Cond)
filter_rule table = if_next (is_word (codes "where")) (conjunction 16 table []) (done [])
