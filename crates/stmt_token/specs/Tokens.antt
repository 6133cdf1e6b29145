-- The tokens of a text (scan.l), with the limits of the statements that are read here.
use Rattle.std.specs.Prelude.{ℕ, ◌+◌, zero, suc, ◌==◌, ◌&&◌, nat_le, nat_lt, if◌then◌else◌, Option, Some, None, List, [], ◌∷◌, length, take, drop, map, slice_index}
use Rattle.std.specs.List.{prefix_len}
use Rattle.std.specs.Option.{option_map_or, option_map}
use Rattle.stmt_token.specs.declared.sign.Sign as sign
use Rattle.stmt_token.specs.Bytes.{longest_name, most_digits, is_blank, is_word_start, is_word_part, is_name_part, lowered}
use Rattle.std.specs.Str.Parse.{digits_value}
use Rattle.std.specs.Char.{is_ascii_digit}
use Rattle.stmt_token.specs.Signs.{sign_of_pair, sign_of_byte}

-- What a token says, whatever its spelling: a word in lower case, the bytes of a quoted name, a number, the bytes of a
-- string, or a sign. Bad is where no token stands, or one that breaks a limit.
pub data TokenValue : Type 0 where
  Word : List ℕ → TokenValue
  Quoted : List ℕ → TokenValue
  Number : ℕ → TokenValue
  Text : List ℕ → TokenValue
  Sign : sign.Sign → TokenValue
  Bad : TokenValue

-- a token and the place of its first byte, counted from 0
pub record Lexeme : Type 0 where
  pub place : ℕ
  pub token : TokenValue

-- the token at the front of a text, and how many bytes it takes
pub record Piece : Type 0 where
  pub token : TokenValue
  pub len : ℕ

-- a bad token takes all that is left: nothing is read behind it
abbrev pub bad : List ℕ → Piece
bad text = record { token = Bad; len = length text }

-- a word goes on as long as it can
abbrev pub first_word : List ℕ → Piece
first_word text =
    let len = prefix_len is_word_part text in
    if nat_le len longest_name then record { token = Word (lowered (take len text)); len = len } else bad text

-- a number goes on as long as it can
abbrev pub first_number : List ℕ → Piece
first_number text =
    let len = prefix_len is_ascii_digit text in
    if nat_le len most_digits then record { token = Number (digits_value 10 (take len text)); len = len } else bad text

-- the name behind a `"`, which isn't empty and ends at the next `"`
abbrev pub first_quoted : List ℕ → Piece
first_quoted text =
    let inside = drop 1 text in
    let len = prefix_len is_name_part inside in
    if (nat_lt 0 len && nat_le len longest_name) && slice_index inside len == 34
    then record { token = Quoted (take len inside); len = len + 2 } else bad text

-- where the quote stands that ends a string: two quotes are one quote of the string, and don't end it
abbrev pub string_end : List ℕ → Option ℕ
string_end [] = None
string_end (byte ∷ []) = if byte == 39 then Some 0 else None
string_end (byte ∷ next ∷ behind) =
    if byte == 39
    then (if next == 39 then option_map (λ end. 2 + end) (string_end behind) else Some 0)
    else option_map (λ end. 1 + end) (string_end (next ∷ behind))

-- the bytes of a string: one quote for two
abbrev pub undoubled : List ℕ → List ℕ
undoubled [] = []
undoubled (byte ∷ []) = byte ∷ []
undoubled (byte ∷ next ∷ behind) = byte ∷ (if byte == 39 then undoubled behind else undoubled (next ∷ behind))

-- the string behind a `'`
abbrev pub first_string : List ℕ → Piece
first_string text =
    let inside = drop 1 text in
    option_map_or (λ end. record { token = Text (undoubled (take end inside)); len = end + 2 })
    (string_end inside) (bad text)

-- a sign of one byte
abbrev pub short_sign : ℕ → List ℕ → Piece
short_sign byte text = option_map_or (λ sign. record { token = Sign sign; len = 1 }) (sign_of_byte byte) (bad text)

-- a sign of two bytes, where there is one
abbrev pub first_sign : List ℕ → Piece
first_sign [] = bad []
first_sign (byte ∷ []) = short_sign byte (byte ∷ [])
first_sign (byte ∷ next ∷ behind) =
    option_map_or (λ sign. record { token = Sign sign; len = 2 }) (sign_of_pair byte next)
    (short_sign byte (byte ∷ next ∷ behind))

-- the token at the front of a text that begins with this byte
abbrev pub token_with : ℕ → List ℕ → Piece
token_with byte text =
    if is_word_start byte then first_word text
    else (if is_ascii_digit byte then first_number text
    else (if byte == 34 then first_quoted text
    else (if byte == 39 then first_string text
    else first_sign text)))

-- the token at the front of a text, or None at its end
abbrev pub first_token : List ℕ → Option Piece
first_token [] = None
first_token (byte ∷ behind) = Some (token_with byte (byte ∷ behind))

-- how many blanks a text begins with
abbrev pub blanks : List ℕ → ℕ
blanks text = prefix_len is_blank text

-- at most so many first tokens of a text that begins at a place
abbrev pub lexemes_within : ℕ → ℕ → List ℕ → List Lexeme
lexemes_within zero place text = []
lexemes_within (suc most) place text =
    let at = place + blanks text in
    let left = drop (blanks text) text in
    option_map_or
    (λ piece. record { place = at; token = piece.token } ∷ lexemes_within most (at + piece.len) (drop piece.len left))
    (first_token left) []

-- The tokens of a text that begins at a place, with their places, up to the text's end or the first bad token. There
-- are no more of them than bytes.
unfoldable pub lexemes_from : ℕ → List ℕ → List Lexeme
lexemes_from place text = lexemes_within (length text) place text

-- the tokens of a text, with their places
abbrev pub lexemes_of : List ℕ → List Lexeme
lexemes_of text = lexemes_from 0 text

-- the tokens of a text
abbrev pub tokens_of : List ℕ → List TokenValue
tokens_of text = map (λ lexeme. lexeme.token) (lexemes_of text)
