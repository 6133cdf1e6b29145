-- Rules of a grammar (gram.y): each reads tokens from left to right, and tells the first fault that it meets.
use Rattle.std.specs.Prelude.{ℕ, zero, suc, Bool, false, if◌then◌else◌, List, [], ◌∷◌, length, drop, Option, Result, Ok, Err}
use Rattle.std.specs.Option.{option_map_or}
use Rattle.std.specs.Str.{bytes_eq}
use Rattle.stmt_token.specs.declared.sign.Sign.{Sign}
use Rattle.stmt_token.specs.Signs.{sign_spelling}
use Rattle.stmt_token.specs.Tokens.{TokenValue}
use Rattle.stmt_token.specs.Tokens as value
use Rattle.index_stmt.specs.declared.fault.StmtCause.{StmtCause}
use Rattle.index_stmt.specs.declared.fault.StmtCause.TheVariants.{NoToken, Unexpected, NotAllowed}

-- what a rule makes of the tokens before it: what they mean and the tokens behind them, or the cause of a fault and the
-- tokens from the one at fault on
abbrev pub Read : Type 0 → Type 0
Read A = Result (A × List TokenValue) (StmtCause × List TokenValue)

abbrev pub Rule : Type 0 → Type 0
Rule A = List TokenValue → Read A

-- a rule, and then another, which may depend on what the first one read
abbrev pub go_on : {A B : Type 0} → Read A → (A → Rule B) → Read B
go_on (Ok read) next = next read.0 read.1
go_on (Err fault) next = Err fault

infixl 10 ◌>>=◌
abbrev pub ◌>>=◌ : {A B : Type 0} → Rule A → (A → Rule B) → Rule B
rule >>= next = λ tokens. go_on (rule tokens) next

infixl 10 ◌>>◌
abbrev pub ◌>>◌ : {A B : Type 0} → Rule A → Rule B → Rule B
rule >> next = λ tokens. go_on (rule tokens) (λ _. next)

-- nothing is read, and this is meant
abbrev pub done : {A : Type 0} → A → Rule A
done value tokens = Ok (value, tokens)

-- the next token is at fault for this cause
abbrev pub refused : {A : Type 0} → StmtCause → Rule A
refused cause tokens = Err (cause, tokens)

-- why the next token isn't what the grammar has there: it is no token, or another one, or there is none
abbrev pub cause_of_other : List TokenValue → StmtCause
cause_of_other (value.Bad ∷ tokens) = NoToken
cause_of_other tokens = Unexpected

abbrev pub other_token : {A : Type 0} → Rule A
other_token tokens = Err (cause_of_other tokens, tokens)

-- the token is this word
abbrev pub is_word : List ℕ → TokenValue → Bool
is_word word (value.Word bytes) = bytes_eq bytes word
is_word word other = false

-- the token is this sign
abbrev pub is_sign : Sign → TokenValue → Bool
is_sign sign (value.Sign own) = bytes_eq (sign_spelling own) (sign_spelling sign)
is_sign sign other = false

-- the next token passes a test
abbrev pub next_is : (TokenValue → Bool) → List TokenValue → Bool
next_is test [] = false
next_is test (token ∷ tokens) = test token

-- a token that passes a test
abbrev pub expected : (TokenValue → Bool) → Rule Unit
expected test tokens = if next_is test tokens then Ok (tt, drop 1 tokens) else other_token tokens

-- a word of the grammar, and a sign
abbrev pub word : List ℕ → Rule Unit
word text = expected (is_word text)

abbrev pub sign : Sign → Rule Unit
sign wanted = expected (is_sign wanted)

-- what begins with a token, which is not allowed everywhere, or otherwise something else
abbrev pub clause : {A : Type 0} → (TokenValue → Bool) → Bool → Rule A → Rule A → Rule A
clause test allowed begun otherwise tokens =
    if next_is test tokens
    then (if allowed then begun (drop 1 tokens) else refused NotAllowed tokens)
    else otherwise tokens

-- what begins with a token, or otherwise something else
abbrev pub if_next : {A : Type 0} → (TokenValue → Bool) → Rule A → Rule A → Rule A
if_next test begun otherwise tokens =
    if next_is test tokens then begun (drop 1 tokens) else otherwise tokens

-- a token that is taken as something
abbrev pub token_as : {A : Type 0} → (TokenValue → Option A) → Rule A
token_as view [] = other_token []
token_as view (token ∷ tokens) =
    option_map_or (λ found. Ok (found, tokens)) (view token) (other_token (token ∷ tokens))

-- what was read means something, or isn't allowed, which is told where it began
abbrev pub judged : {B : Type 0} → Result B StmtCause → List TokenValue → Rule B
judged (Ok meant) begun tokens = Ok (meant, tokens)
judged (Err cause) begun tokens = Err (cause, begun)

abbrev pub meaning : {A B : Type 0} → Rule A → (A → Result B StmtCause) → Rule B
meaning rule judge tokens = go_on (rule tokens) (λ read. judged (judge read) tokens)

-- One or more items with a token between them, at most so many more than one. Each is read after what those before it
-- came to, and adds itself to that.
abbrev pub listed : {S : Type 0} → ℕ → (TokenValue → Bool) → (S → Rule S) → S → Rule S
listed zero between item before = item before
listed (suc more) between item before = do
  after ← item before
  if_next between (listed more between item after) (done after)

-- one or more items with a token between them: there are no more than tokens
unfoldable pub separated : {S : Type 0} → (TokenValue → Bool) → (S → Rule S) → S → Rule S
separated between item before tokens = listed (length tokens) between item before tokens
