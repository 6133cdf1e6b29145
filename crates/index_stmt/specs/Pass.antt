-- What the functions of the grammar keep on their way.
use Rattle.std.specs.Prelude.{◌≡◌, ℕ, ⊤, List, [], ◌∷◌, length, map, drop, find, Option, Some, None, Result, Ok, Err}
use Rattle.std.specs.Borrow.{Bor}
use Rattle.std.specs.Option.{option_map}
use Rattle.stmt_token.specs.Tokens.{Lexeme, TokenValue, lexemes_of}
use Rattle.index_stmt.specs.declared.fault.StmtCause.{StmtCause}
use Rattle.index_stmt.specs.declared.fault.Stop.{Stop}
use Rattle.index_stmt.specs.declared.fault.Stop.TheVariants as stop
use Rattle.index_stmt.specs.declared.type_name.TypeStart.{TypeStart}
use Rattle.index_stmt.specs.Rule.{Rule, is_word, next_is}

-- a statement and the tokens of it that are left
pub record Ahead : Type 0 where
  pub text : List ℕ
  pub tokens : List TokenValue

-- the tokens without their places
abbrev pub tokens_in : List Lexeme → List TokenValue
tokens_in lexemes = map (λ lexeme. lexeme.token) lexemes

-- these tokens end a text's tokens
pub record EndText (text : List ℕ) (lexemes : List Lexeme) (end : ℕ) : Type 0 where
  pub behind : (read : ℕ) × (lexemes ≡ drop read (lexemes_of text))
  pub end_is : end ≡ length text

-- a token is taken
abbrev pub after_one : Ahead → Ahead
after_one ahead = record ahead { tokens = drop 1 ahead.tokens }

-- a rule's function reads what the rule reads, and leaves the tokens behind it or, at a fault, those from the one at
-- fault on. Nothing is said where memory ran out.
abbrev pub Reads : {A : Type 0} → Rule A → Ahead → Result A Stop → Ahead → Type 0
Reads rule old (Ok value) new = (rule old.tokens ≡ Ok (value, new.tokens)) × (new.text ≡ old.text)
Reads rule old (Err (stop.Fault cause)) new = (rule old.tokens ≡ Err (cause, new.tokens)) × (new.text ≡ old.text)
Reads rule old (Err stop.Memory) new = ⊤

-- the same of a function that takes no memory
abbrev pub ReadsFreely : {A : Type 0} → Rule A → Ahead → Result A StmtCause → Ahead → Type 0
ReadsFreely rule old (Ok value) new = (rule old.tokens ≡ Ok (value, new.tokens)) × (new.text ≡ old.text)
ReadsFreely rule old (Err cause) new = (rule old.tokens ≡ Err (cause, new.tokens)) × (new.text ≡ old.text)

-- a word that begins a type, as the code has it
abbrev pub Row : Type 0
Row = Bor (List ℕ) × TypeStart

-- how a type goes on that begins with the next token, by the first row whose word this is
unfoldable pub started : List Row → List TokenValue → Option TypeStart
started rows tokens = option_map (λ row. row.1) (find (λ row. next_is (is_word row.0.now) tokens) rows)

-- the next token
abbrev pub next_of : List TokenValue → Option TokenValue
next_of [] = None
next_of (token ∷ tokens) = Some token
