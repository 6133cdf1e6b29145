-- What holds of the tokens of texts, whatever the texts are.
use Rattle.std.specs.Prelude.{◌≡◌, ◌≢◌, ℕ, List, ◌++◌, map, All}
use Rattle.std.specs.List.{AllPass}
use Rattle.stmt_token.specs.Bytes.{is_blank}
use Rattle.stmt_token.specs.Tokens.{TokenValue, Bad, tokens_of}
use Rattle.stmt_token.specs.Spelling.{CanBeQuoted, IsTextOf, Spaced, IsSpaced, spaced_text, IsToken, printed}

-- what is spelt as tokens is read as these tokens
abbrev pub TextsAreRead : Type 0
TextsAreRead = (tokens : List TokenValue) (text : List ℕ) → IsTextOf tokens text → tokens_of text ≡ tokens

-- what is read as tokens, none of them bad, is spelt as these tokens
abbrev pub TextsAreSpelt : Type 0
TextsAreSpelt =
    (text : List ℕ) → All (λ token. token ≢ Bad) (tokens_of text) → IsTextOf (tokens_of text) text

-- neither the blanks between tokens count nor which spelling of a token is taken
abbrev pub BlanksDontCount : Type 0
BlanksDontCount =
    (front : List ℕ) (pieces : List Spaced) → AllPass is_blank front → All IsSpaced pieces
    → tokens_of (front ++ spaced_text pieces) ≡ map (λ piece. piece.token) pieces

-- tokens that are printed are read again
abbrev pub TokensArePrinted : Type 0
TokensArePrinted = (tokens : List TokenValue) → All IsToken tokens → tokens_of (printed tokens) ≡ tokens

-- the words and quoted names of a text are names that can be quoted
abbrev pub NamesCanBeQuoted : Type 0
NamesCanBeQuoted = (text : List ℕ) → All CanBeQuoted (tokens_of text)
