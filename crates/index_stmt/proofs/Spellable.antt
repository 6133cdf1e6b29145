-- The tokens that are printed have spellings.
use Rattle.std.proofs.Common.{◌≡◌, ℕ, ◌≤◌, Bool, true, false, ◌&&◌, nat_le, List, [], ◌∷◌, ◌++◌, map, length, refl, arith, All, codes}
use Rattle.std.proofs.lemmas.Bool.Decides.{nat_tests}
use Rattle.std.proofs.lemmas.List.Elements.{All-append, All-cons, All-head, All-map, All-nil, All-tail, All-weaker}
use Rattle.std.proofs.lemmas.List.Sums.{AllPass-from_list_all}
use Rattle.std.proofs.lemmas.Slice.Eq.{bytes_eq-Decides}
use Rattle.std.specs.List.{list_all}
use Rattle.std.specs.Str.{bytes_eq}
use Rattle.stmt_token.specs.declared.sign.Sign.TheVariants.{Comma, LeftParen, RightParen}
use Rattle.stmt_token.specs.Bytes.{is_word_part, is_word_start, lowered}
use Rattle.stmt_token.specs.Spelling.{IsQuotable, IsToken, Starts}
use Rattle.stmt_token.specs.Tokens.{TokenValue, Bad, Number, Quoted, Sign, Text, Word}
use Rattle.opclass.specs.declared.types.ColType.{ColType}
use Rattle.opclass.specs.declared.types.ColType.TheVariants as ty
use Rattle.opclass.specs.declared.table.Column.{Column}
use Rattle.opclass.specs.declared.table.Table.{Table}
use Rattle.index_stmt.specs.Named.{HasNames}
use Rattle.index_stmt.specs.Printer.{column_tokens, enclosed, table_tokens, type_tokens, with_between}

pub both_true : (a b : Bool) → (a && b) ≡ true → (a ≡ true) × (b ≡ true)
both_true true true e = (refl, refl)
both_true true false e = cc
both_true false true e = cc
both_true false false e = cc

abbrev pub starts_word : List ℕ → Bool
starts_word [] = false
starts_word (byte ∷ bytes) = is_word_start byte

-- words that are spelt as they are
abbrev pub is_written : List ℕ → Bool
is_written word =
    (starts_word word && list_all is_word_part word) && (nat_le (length word) 63 && bytes_eq (lowered word) word)

written : (word : List ℕ) → is_written word ≡ true → IsToken (Word word)
written word e =
    let halves =
    both_true (starts_word word && list_all is_word_part word) (nat_le (length word) 63 && bytes_eq (lowered word) word) e in
    let front = both_true (starts_word word) (list_all is_word_part word) halves.0 in
    let back = both_true (nat_le (length word) 63) (bytes_eq (lowered word) word) halves.1 in
    record {
      start = starts word front.0;
      parts = AllPass-from_list_all is_word_part word front.1;
      size = fits (length word) back.0;
      is = (bytes_eq-Decides (lowered word) word).0 back.1;
    }
  where
    starts : (word : List ℕ) → starts_word word ≡ true → Starts is_word_start word
    starts [] e = cc
    starts (byte ∷ bytes) e = e

    fits : (n : ℕ) → nat_le n 63 ≡ true → n ≤ 63
    fits n e = grind (arith, nat_tests)

-- words and signs
abbrev pub is_plain : TokenValue → Bool
is_plain (Word word) = is_written word
is_plain (Sign sign) = true
is_plain other = false

pub plain : (token : TokenValue) → is_plain token ≡ true → IsToken token
plain (Word word) e = written word e
plain (Quoted name) e = cc
plain (Number number) e = cc
plain (Text text) e = cc
plain (Sign sign) e = tt
plain Bad e = cc

pub plain_written : (tokens : List TokenValue) → list_all is_plain tokens ≡ true → All IsToken tokens
plain_written tokens e =
    All-weaker (λ token. is_plain token ≡ true) IsToken plain tokens (AllPass-from_list_all is_plain tokens e)

-- words and signs before tokens that have spellings
pub plain_before : (tokens others : List TokenValue) → list_all is_plain tokens ≡ true → All IsToken others → All IsToken (tokens ++ others)
plain_before tokens others e rest = All-append IsToken tokens others (plain_written tokens e) rest

pub between_written : (token : TokenValue) (items : List (List TokenValue)) → IsToken token → All (All IsToken) items
    → All IsToken (with_between token items)
between_written token [] one each = All-nil IsToken
between_written token (item ∷ []) one each = All-head (All IsToken) item [] each
between_written token (item ∷ next ∷ items) one each =
    All-append IsToken item (token ∷ with_between token (next ∷ items)) (All-head (All IsToken) item (next ∷ items) each)
    (All-cons IsToken token (with_between token (next ∷ items)) one
    (between_written token (next ∷ items) one (All-tail (All IsToken) item (next ∷ items) each)))

pub enclosed_written : (items : List (List TokenValue)) → All (All IsToken) items → All IsToken (enclosed items)
enclosed_written items each =
    plain_before (Sign LeftParen ∷ []) (with_between (Sign Comma) items ++ Sign RightParen ∷ []) refl
    (All-append IsToken (with_between (Sign Comma) items) (Sign RightParen ∷ []) (between_written (Sign Comma) items tt each)
    (plain_written (Sign RightParen ∷ []) refl))

pub quoted_before : (name : List ℕ) (others : List TokenValue) → IsQuotable name → All IsToken others → All IsToken (Quoted name ∷ others)
quoted_before name others quotable rest = All-cons IsToken (Quoted name) others quotable rest

type_plain : (kind : ColType) → list_all is_plain (type_tokens kind) ≡ true
type_plain ty.Bool = refl
type_plain ty.Int2 = refl
type_plain ty.Int4 = refl
type_plain ty.Int8 = refl
type_plain ty.Oid = refl
type_plain ty.Date = refl
type_plain ty.Timestamp = refl
type_plain ty.Timestamptz = refl
type_plain ty.Time = refl
type_plain ty.Uuid = refl
type_plain ty.Text = refl
type_plain ty.Varchar = refl
type_plain ty.Bytea = refl
type_plain ty.Float4 = refl
type_plain ty.Float8 = refl
type_plain ty.Numeric = refl
type_plain ty.Bpchar = refl
type_plain ty.Name = refl
type_plain ty.Interval = refl
type_plain ty.Json = refl
type_plain ty.Jsonb = refl
type_plain ty.Int4Array = refl
type_plain ty.Int8Array = refl
type_plain ty.TextArray = refl

column_written : (one : Column) → IsQuotable one.name → All IsToken (column_tokens one)
column_written one quotable = quoted_before one.name (type_tokens one.kind) quotable (plain_written (type_tokens one.kind) (type_plain one.kind))

pub table_written : (table : Table) → HasNames table → All IsToken (table_tokens table)
table_written table named =
    plain_before (Word (codes "create") ∷ Word (codes "table") ∷ []) (Quoted table.name ∷ enclosed (map column_tokens table.columns)) refl
    (quoted_before table.name (enclosed (map column_tokens table.columns)) named.own
    (enclosed_written (map column_tokens table.columns)
    (All-map (All IsToken) column_tokens table.columns
    (All-weaker (λ column. IsQuotable column.name) (λ column. All IsToken (column_tokens column)) column_written table.columns named.columns))))
