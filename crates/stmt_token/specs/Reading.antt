-- What a reader has before it.
use Rattle.std.specs.Prelude.{ℕ, Option, Some, None, List, [], ◌∷◌}
use Rattle.stmt_token.specs.Tokens.{TokenValue, Lexeme}

-- the tokens that are left, and where the text ends
pub record Reading : Type 0 where
  pub lexemes : List Lexeme
  pub end : ℕ

-- the next token, or None at the end
abbrev pub next_token : List Lexeme → Option TokenValue
next_token [] = None
next_token (lexeme ∷ lexemes) = Some lexeme.token

-- the place of the next token, or of the text's end
abbrev pub next_place : List Lexeme → ℕ → ℕ
next_place [] end = end
next_place (lexeme ∷ lexemes) end = lexeme.place
