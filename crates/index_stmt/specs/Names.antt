-- Names (ColId of gram.y): a quoted name, or a word that isn't one of the grammar's own.
use Rattle.std.specs.Prelude.{ℕ, Bool, codes, if◌then◌else◌, List, [], ◌∷◌, Option, Some, None, is_some}
use Rattle.std.specs.List.{list_any}
use Rattle.std.specs.Str.{bytes_eq}
use Rattle.stmt_token.specs.declared.sign.Sign.TheVariants.{Dot}
use Rattle.stmt_token.specs.Tokens.{TokenValue}
use Rattle.stmt_token.specs.Tokens.{Word, Quoted}
use Rattle.index_stmt.specs.Rule.{Rule, ◌>>◌, done, expected, if_next, is_sign, token_as}

-- the words that are no names (the reserved ones of kwlist.h that stand in the two statements, and a few more)
abbrev pub reserved_words : List (List ℕ)
reserved_words =
    codes "create" ∷ codes "table" ∷ codes "unique" ∷ codes "index" ∷ codes "on" ∷ codes "using" ∷ codes "include"
    ∷ codes "nulls" ∷ codes "not" ∷ codes "null" ∷ codes "distinct" ∷ codes "with" ∷ codes "where" ∷ codes "and"
    ∷ codes "is" ∷ codes "asc" ∷ codes "desc" ∷ codes "collate" ∷ codes "true" ∷ codes "false" ∷ []

abbrev pub is_reserved : List ℕ → Bool
is_reserved word = list_any (λ reserved. bytes_eq word reserved) reserved_words

-- the name that a token is
abbrev pub name_in : TokenValue → Option (List ℕ)
name_in (Word bytes) = if is_reserved bytes then None else Some bytes
name_in (Quoted bytes) = Some bytes
name_in other = None

-- the token is a name
abbrev pub is_name : TokenValue → Bool
is_name token = is_some (name_in token)

-- the word that a token is, also one that is no name
abbrev pub word_in : TokenValue → Option (List ℕ)
word_in (Word bytes) = Some bytes
word_in other = None

-- name
unfoldable pub name : Rule (List ℕ)
name = token_as name_in

-- [name "."]: the name isn't looked at, and one without a dot behind it is left
unfoldable pub schema : Rule Unit
schema tokens = (expected is_name >> if_next (is_sign Dot) (done tt) (λ _. done tt tokens)) tokens

-- qname = name ["." name], where this rule reads the last name
abbrev pub qualified : {A : Type 0} → Rule A → Rule A
qualified rule = schema >> rule
