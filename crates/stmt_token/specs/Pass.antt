-- What the pass over a text keeps.
use Rattle.std.specs.Prelude.{◌≡◌, ℕ, ◌≤◌, Option, Some, None, List, [], ◌∷◌, length}
use Rattle.stmt_token.specs.declared.token.Token.{Token}
use Rattle.stmt_token.specs.Tokens.{TokenValue, Lexeme, Piece}
use Rattle.stmt_token.specs.Borrowed.{value_of}

-- a borrowed token and how many bytes it takes of a text are this piece
pub record IsPiece (text : List ℕ) (read : Token × ℕ) (piece : Piece) : Type 0 where
  pub within : read.1 ≤ length text
  pub token : value_of read.0 ≡ Some piece.token
  pub len : read.1 ≡ piece.len

-- a borrowed token at a place, and what follows it
abbrev pub followed : Option TokenValue → ℕ → List Lexeme → List Lexeme
followed None place lexemes = []
followed (Some token) place lexemes = record { place = place; token = token } ∷ lexemes

-- A reader of a text of at most 65,536 bytes, of which so many are left behind the token at hand. The end has its own
-- place, and nothing behind it.
pub record IsReader (token : Token) (place left end : ℕ) : Type 0 where
  pub small : end ≤ 65536
  pub within : left ≤ end
  pub nothing_left : value_of token ≡ None → left ≡ 0
  pub at_end : value_of token ≡ None → place ≡ end
