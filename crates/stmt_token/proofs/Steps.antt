-- The tokens of a text, one after the other.
use Rattle.std.proofs.Common.{◌≡◌, ℕ, ◌+◌, ◌-◌, ◌<◌, ◌≤◌, zero, suc, Bool, true, false, if◌then◌else◌, ◌==◌, Option, Some, None, List, [], ◌∷◌, length, take, drop, get_or, refl, ap, sym, ◌∙◌, arith}
use Rattle.std.proofs.lemmas.List.{length-drop, take_all}
use Rattle.std.proofs.lemmas.List.Sums.{prefix_len-le-length}
use Rattle.std.proofs.lemmas.Bool.Decides.{nat_tests}
use Rattle.std.specs.Option.{option_map_or}
use Rattle.std.specs.List.{prefix_len}
use Rattle.stmt_token.specs.declared.token.Token.{Token}
use Rattle.stmt_token.specs.declared.sign.Sign.{Sign}
use Rattle.std.specs.Char.{is_ascii_digit}
use Rattle.stmt_token.specs.Signs.{sign_of_byte, sign_of_pair}
use Rattle.stmt_token.specs.Bytes.{is_blank, is_word_start}
use Rattle.stmt_token.specs.Tokens.{TokenValue, Text, Sign as Mark, Lexeme, Piece, bad, undoubled, string_end, first_word, first_number, first_quoted, short_sign, first_sign, token_with, first_token, blanks, lexemes_within, lexemes_from}
use Rattle.stmt_token.specs.Borrowed.{value_of}
use Rattle.stmt_token.specs.Pass.{followed, IsPiece}

chosen : (test : Bool) (p q : Piece) → (test ≡ true → 0 < p.len) → 0 < q.len → 0 < (if test then p else q).len
chosen true p q first second = first refl
chosen false p q first second = second

maybe : (sign : Option Sign) (n : ℕ) (q : Piece) → 0 < n → 0 < q.len
    → 0 < (option_map_or (λ (s : Sign). record { token = Mark s; len = n }) sign q).len
maybe None n q first second = second
maybe (Some s) n q first second = first

-- a word has a byte at least, and so on
word_takes : (byte : ℕ) (behind : List ℕ) → is_word_start byte ≡ true → 0 < (first_word (byte ∷ behind)).len
word_takes byte behind is = grind (arith, nat_tests)

number_takes : (byte : ℕ) (behind : List ℕ) → is_ascii_digit byte ≡ true → 0 < (first_number (byte ∷ behind)).len
number_takes byte behind is = grind (arith, nat_tests)

quoted_takes : (byte : ℕ) (behind : List ℕ) → 0 < (first_quoted (byte ∷ behind)).len
quoted_takes byte behind = grind (arith, nat_tests)

string_takes : (text inside : List ℕ) (end : Option ℕ) → 0 < length text
    → 0 < (option_map_or (λ (e : ℕ). record { token = Text (undoubled (take e inside)); len = e + 2 }) end (bad text)).len
string_takes text inside None some = some
string_takes text inside (Some e) some = omega arith

sign_takes : (byte : ℕ) (behind : List ℕ) → 0 < (first_sign (byte ∷ behind)).len
sign_takes byte [] = maybe (sign_of_byte byte) 1 (bad (byte ∷ [])) (omega arith) (omega arith)
sign_takes byte (next ∷ behind) =
    maybe (sign_of_pair byte next) 2 (short_sign byte (byte ∷ next ∷ behind)) (omega arith)
    (maybe (sign_of_byte byte) 1 (bad (byte ∷ next ∷ behind)) (omega arith) (omega arith))

-- a token takes a byte at least
pub token_takes : (byte : ℕ) (behind : List ℕ) → 0 < (token_with byte (byte ∷ behind)).len
token_takes byte behind =
    chosen (is_word_start byte) _ _ (word_takes byte behind)
    (chosen (is_ascii_digit byte) _ _ (number_takes byte behind)
    (chosen (byte == 34) _ _ (λ _. quoted_takes byte behind)
    (chosen (byte == 39) _ _ (λ _. string_takes (byte ∷ behind) behind (string_end behind) (omega arith))
    (sign_takes byte behind))))

-- how a token goes on, where so many more may come
abbrev goes_on : ℕ → ℕ → List ℕ → List Lexeme
goes_on most at left =
    option_map_or
    (λ (piece : Piece). record { place = at; token = piece.token } ∷ lexemes_within most (at + piece.len) (drop piece.len left))
    (first_token left) []

same_behind : (m n at : ℕ) (left : List ℕ) → length left ≤ suc m → length left ≤ suc n
    → ((place : ℕ) (text : List ℕ) → length text ≤ m → length text ≤ n → lexemes_within m place text ≡ lexemes_within n place text)
    → goes_on m at left ≡ goes_on n at left
same_behind m n at [] fits_m fits_n same = refl
same_behind m n at (byte ∷ behind) fits_m fits_n same =
    let piece : Piece = token_with byte (byte ∷ behind) in
    let takes : 0 < piece.len = token_takes byte behind in
    let size : length (drop piece.len (byte ∷ behind)) ≡ length (byte ∷ behind) - piece.len = length-drop piece.len (byte ∷ behind) in
    ap (λ (l : List Lexeme). record { place = at; token = piece.token } ∷ l)
    (same (at + piece.len) (drop piece.len (byte ∷ behind)) (omega arith) (omega arith))

-- it doesn't matter how many may come, where they are as many as bytes
enough : (m n place : ℕ) (text : List ℕ) → length text ≤ m → length text ≤ n → lexemes_within m place text ≡ lexemes_within n place text
enough zero zero place text fits_m fits_n = refl
enough zero (suc n) place [] fits_m fits_n = refl
enough zero (suc n) place (byte ∷ behind) fits_m fits_n = absurd (omega arith)
enough (suc m) zero place [] fits_m fits_n = refl
enough (suc m) zero place (byte ∷ behind) fits_m fits_n = absurd (omega arith)
enough (suc m) (suc n) place text fits_m fits_n =
    let size : length (drop (blanks text) text) ≡ length text - blanks text = length-drop (blanks text) text in
    same_behind m n (place + blanks text) (drop (blanks text) text) (omega arith) (omega arith) (λ p t. enough m n p t)

-- the tokens of a text: blanks, and then the first token and those behind it
pub lexemes_from-step : (place : ℕ) (text : List ℕ)
    → lexemes_from place text
    ≡ option_map_or
    (λ (piece : Piece). record { place = place + blanks text; token = piece.token } ∷ lexemes_from (place + blanks text + piece.len) (drop piece.len (drop (blanks text) text)))
    (first_token (drop (blanks text) text)) []
unfolding lexemes_from
lexemes_from-step place text =
    enough (length text) (suc (length text)) place text (omega arith) (omega arith)
    ∙ to_own (length text) (place + blanks text) (drop (blanks text) text) (omega (arith, length-drop (blanks text) text))
  where
    to_own : (m at : ℕ) (left : List ℕ) → length left ≤ m
        → goes_on m at left
        ≡ option_map_or
        (λ (piece : Piece). record { place = at; token = piece.token } ∷ lexemes_within (length (drop piece.len left)) (at + piece.len) (drop piece.len left))
        (first_token left) []
    to_own m at [] fits = refl
    to_own m at (byte ∷ behind) fits =
        let piece : Piece = token_with byte (byte ∷ behind) in
        ap (λ (l : List Lexeme). record { place = at; token = piece.token } ∷ l)
        (enough m (length (drop piece.len (byte ∷ behind))) (at + piece.len) (drop piece.len (byte ∷ behind))
        (omega (arith, length-drop piece.len (byte ∷ behind))) (omega arith))

pub lexemes_from-end : (place : ℕ) → lexemes_from place [] ≡ []
lexemes_from-end place = lexemes_from-step place []

-- what stands behind k bytes, to the end
pub to_the_end : (k : ℕ) (xs : List ℕ) → take (length xs - k) (drop k xs) ≡ drop k xs
to_the_end k xs = take_all (length xs - k) (drop k xs) (omega (arith, length-drop k xs))

-- a text of blanks alone has no tokens
pub read_end : (text : List ℕ) (place n : ℕ) → n ≡ prefix_len is_blank text → length (take (length text - n) (drop n text)) < 1
    → [] ≡ lexemes_from place text
read_end text place n are short =
    let left : drop (blanks text) text ≡ take (length text - n) (drop n text) = ap (λ (k : ℕ). drop k text) (sym are) ∙ sym (to_the_end n text) in
    sym (lexemes_from-step place text ∙ ended (drop (blanks text) text) (omega (arith, ap length left)))
  where
    ended : (left : List ℕ) → length left < 1 → option_map_or
        (λ (piece : Piece). record { place = place + blanks text; token = piece.token } ∷ lexemes_from (place + blanks text + piece.len) (drop piece.len left))
        (first_token left) [] ≡ []
    ended [] is = refl
    ended (byte ∷ behind) is = absurd (omega arith)

-- the first token behind the blanks, and those behind it
pub read_next : (text left behind : List ℕ) (end place n : ℕ) (read : Token × ℕ)
    → length text ≤ end → n ≡ prefix_len is_blank text → left ≡ drop n text → 0 < length left → place ≡ end - length left
    → behind ≡ drop read.1 left → IsPiece left read (token_with (get_or left 0 0) left)
    → followed (value_of read.0) place (lexemes_from (end - length behind) behind) ≡ lexemes_from (end - length text) text
read_next text left behind end place n read fits are left_is some place_is behind_is piece =
    let left_is' : left ≡ drop (blanks text) text = left_is ∙ ap (λ (k : ℕ). drop k text) are in
    let start : end - length text + blanks text ≡ place =
    omega (arith, ap length left_is', length-drop (blanks text) text, prefix_len-le-length is_blank text) in
    let next : place + read.1 ≡ end - length behind =
    omega (arith, ap length behind_is, length-drop read.1 left, piece.within, ap length left_is', length-drop (blanks text) text) in
    sym
    (lexemes_from-step (end - length text) text
    ∙ ap (λ (l : List ℕ). own (end - length text + blanks text) l) (sym left_is')
    ∙ ap (λ (at : ℕ). own at left) start
    ∙ taken place left read some piece
    ∙ ap (λ (at : ℕ). followed (value_of read.0) place (lexemes_from at (drop read.1 left))) next
    ∙ ap (λ (l : List ℕ). followed (value_of read.0) place (lexemes_from (end - length behind) l)) (sym behind_is))
  where
    own : ℕ → List ℕ → List Lexeme
    own at l = option_map_or
        (λ (piece : Piece). record { place = at; token = piece.token } ∷ lexemes_from (at + piece.len) (drop piece.len l))
        (first_token l) []

    taken : (at : ℕ) (l : List ℕ) (r : Token × ℕ) → 0 < length l → IsPiece l r (token_with (get_or l 0 0) l)
        → own at l ≡ followed (value_of r.0) at (lexemes_from (at + r.1) (drop r.1 l))
    taken at [] r some is = absurd (omega arith)
    taken at (byte ∷ more) r some is =
        rw (is.token, is.len) refl

-- what is left behind the next token
pub without_next : (token : Option TokenValue) (place end : ℕ) (left : List ℕ) → (token ≡ None → length left ≡ 0)
    → lexemes_from (end - length left) left ≡ drop 1 (followed token place (lexemes_from (end - length left) left))
without_next None place end [] none = lexemes_from-end _
without_next None place end (byte ∷ left) none = absurd (omega (arith, none refl))
without_next (Some token) place end left none = refl
