-- How tokens are spelt, and which texts are which tokens: the rules of Tokens said the other way round.
use Rattle.std.specs.Prelude.{◌≡◌, ℕ, ◌^◌, ◌<◌, ◌≤◌, ⊤, Bool, true, false, ◌==◌, if◌then◌else◌, Option, Some, None, is_some, List, [], ◌∷◌, ◌++◌, length}
use Rattle.std.specs.List.{flat_map, AllPass}
use Rattle.std.specs.Char.{is_ascii_digit}
use Rattle.std.specs.Str.Parse.{digits_value}
use Rattle.std.specs.Fmt.{decimal}
use Rattle.stmt_token.specs.declared.sign.Sign as sign
use Rattle.stmt_token.specs.Bytes.{longest_name, most_digits, is_blank, is_word_start, is_word_part, is_name_part, lowered}
use Rattle.stmt_token.specs.Signs.{sign_of_pair, sign_of_byte, sign_spelling}
use Rattle.stmt_token.specs.Tokens.{TokenValue, Word, Quoted, Number, Text, Sign, Bad}

-- no such byte stands in front
abbrev pub Stops : (ℕ → Bool) → List ℕ → Type 0
Stops test [] = ⊤
Stops test (byte ∷ behind) = test byte ≡ false

-- such a byte stands in front
abbrev pub Starts : (ℕ → Bool) → List ℕ → Type 0
Starts test [] = ⊥
Starts test (byte ∷ behind) = test byte ≡ true

-- a word, in any case
pub record SpellsWord (bytes word : List ℕ) : Type 0 where
  pub start : Starts is_word_start bytes
  pub parts : AllPass is_word_part bytes
  pub size : length bytes ≤ longest_name
  pub is : lowered bytes ≡ word

-- the bytes of a quoted name
pub record IsQuotable (name : List ℕ) : Type 0 where
  pub parts : AllPass is_name_part name
  pub some : 0 < length name
  pub size : length name ≤ longest_name

-- a token that may be a name has the bytes of one
abbrev pub CanBeQuoted : TokenValue → Type 0
CanBeQuoted (Word word) = IsQuotable word
CanBeQuoted (Quoted name) = IsQuotable name
CanBeQuoted other = ⊤

-- a quoted name
pub record SpellsQuoted (bytes name : List ℕ) : Type 0 where
  pub name_is : IsQuotable name
  pub is : bytes ≡ 34 ∷ name ++ 34 ∷ []

-- a number
pub record SpellsNumber (bytes : List ℕ) (number : ℕ) : Type 0 where
  pub digits : AllPass is_ascii_digit bytes
  pub some : 0 < length bytes
  pub size : length bytes ≤ most_digits
  pub is : digits_value 10 bytes ≡ number

-- a byte of a string, and two quotes for one
abbrev pub doubled_byte : ℕ → List ℕ
doubled_byte byte = if byte == 39 then 39 ∷ 39 ∷ [] else byte ∷ []

abbrev pub doubled : List ℕ → List ℕ
doubled text = flat_map doubled_byte text

-- a string
abbrev pub SpellsText : List ℕ → List ℕ → Type 0
SpellsText bytes text = bytes ≡ 39 ∷ doubled text ++ 39 ∷ []

-- the sign that bytes spell
abbrev pub sign_of : List ℕ → Option sign.Sign
sign_of [] = None
sign_of (byte ∷ []) = sign_of_byte byte
sign_of (first ∷ second ∷ []) = sign_of_pair first second
sign_of (first ∷ second ∷ third ∷ more) = None

-- bytes spell a token; none spell a bad one
abbrev pub Spells : List ℕ → TokenValue → Type 0
Spells bytes (Word word) = SpellsWord bytes word
Spells bytes (Quoted name) = SpellsQuoted bytes name
Spells bytes (Number number) = SpellsNumber bytes number
Spells bytes (Text text) = SpellsText bytes text
Spells bytes (Sign sign) = sign_of bytes ≡ Some sign
Spells bytes Bad = ⊥

-- what stands behind a token's bytes doesn't carry it on
abbrev pub Ends : List ℕ → TokenValue → List ℕ → Type 0
Ends bytes (Word word) behind = Stops is_word_part behind
Ends bytes (Quoted name) behind = ⊤
Ends bytes (Number number) behind = Stops is_ascii_digit behind
Ends bytes (Text text) behind = Stops (λ byte. byte == 39) behind
Ends bytes (Sign sign) behind = Stops (λ byte. is_some (sign_of (bytes ++ byte ∷ []))) behind
Ends bytes Bad behind = ⊤

-- a text is blanks, a token and what is behind it
pub record BeginsWith (text : List ℕ) (token : TokenValue) (behind : List ℕ) : Type 0 where
  pub front : List ℕ
  pub bytes : List ℕ
  pub blank : AllPass is_blank front
  pub spelt : Spells bytes token
  pub ends : Ends bytes token behind
  pub split : text ≡ front ++ (bytes ++ behind)

-- a text is these tokens, with blanks between them or none where none are needed
abbrev pub IsTextOf : List TokenValue → List ℕ → Type 0
IsTextOf [] text = AllPass is_blank text
IsTextOf (token ∷ tokens) text = (behind : List ℕ) × BeginsWith text token behind × IsTextOf tokens behind

-- a token's bytes and the blanks behind them
pub record Spaced : Type 0 where
  pub token : TokenValue
  pub bytes : List ℕ
  pub blanks : List ℕ

-- the bytes spell the token, and there are blanks
pub record IsSpaced (piece : Spaced) : Type 0 where
  pub spelt : Spells piece.bytes piece.token
  pub blank : AllPass is_blank piece.blanks
  pub some : 0 < length piece.blanks

-- tokens with their blanks
abbrev pub spaced_text : List Spaced → List ℕ
spaced_text pieces = flat_map (λ piece. piece.bytes ++ piece.blanks) pieces

-- a token as it is printed: a word in lower case, a number without zeros before it
abbrev pub spelling_of : TokenValue → List ℕ
spelling_of (Word word) = word
spelling_of (Quoted name) = 34 ∷ name ++ 34 ∷ []
spelling_of (Number number) = decimal number
spelling_of (Text text) = 39 ∷ doubled text ++ 39 ∷ []
spelling_of (Sign sign) = sign_spelling sign
spelling_of Bad = []

-- tokens that have a spelling
abbrev pub IsToken : TokenValue → Type 0
IsToken (Word word) = SpellsWord word word
IsToken (Quoted name) = IsQuotable name
IsToken (Number number) = number < 10 ^ most_digits
IsToken (Text text) = ⊤
IsToken (Sign sign) = ⊤
IsToken Bad = ⊥

-- tokens as they are printed, with a space behind each
abbrev pub printed : List TokenValue → List ℕ
printed tokens = flat_map (λ token. spelling_of token ++ 32 ∷ []) tokens
