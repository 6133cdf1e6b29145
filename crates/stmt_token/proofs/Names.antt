-- The names among a text's tokens can be quoted.
use Rattle.std.proofs.Common.{◌≡◌, ℕ, ◌+◌, ◌<◌, zero, suc, true, List, [], ◌∷◌, length, take, drop, map, subst, arith, All}
use Rattle.std.proofs.lemmas.List.{length-map}
use Rattle.std.proofs.lemmas.Bool.Decides.{nat_tests}
use Rattle.std.proofs.lemmas.List.Elements.{All-cons, All-map, All-nil, All-weaker}
use Rattle.std.specs.Char.{to_ascii_lowercase}
use Rattle.std.specs.Option.{option_map_or}
use Rattle.stmt_token.specs.Bytes.{is_name_part, is_word_part, is_word_start}
use Rattle.stmt_token.specs.Spelling.{CanBeQuoted, IsQuotable, SpellsWord, Starts}
use Rattle.stmt_token.specs.Tokens.{Bad, Number, Piece, Quoted, Sign, Text, TokenValue, Word, blanks, first_token, lexemes_from, lexemes_within, token_with, tokens_of}
use Rattle.stmt_token.proofs.ReadBack.{Good, piece_good, said}

name_byte : (byte : ℕ) → is_word_part byte ≡ true → is_name_part (to_ascii_lowercase byte) ≡ true
name_byte byte is = grind (arith, nat_tests)

some_byte : (bytes : List ℕ) → Starts is_word_start bytes → 0 < length bytes
some_byte [] starts = absurd starts
some_byte (byte ∷ bytes) starts = omega arith

-- a word is a name that can be quoted
word_quotable : (bytes word : List ℕ) → SpellsWord bytes word → IsQuotable word
word_quotable bytes word is =
    let same = length-map bytes to_ascii_lowercase in
    let some = some_byte bytes is.start in
    let size = is.size in
    subst IsQuotable is.is (record {
      parts = All-map (λ byte. is_name_part byte ≡ true) to_ascii_lowercase bytes
          (All-weaker (λ byte. is_word_part byte ≡ true) (λ byte. is_name_part (to_ascii_lowercase byte) ≡ true) name_byte bytes is.parts);
      some = omega (arith, same, some);
      size = omega (arith, same, size);
    })

token_quotable : (text : List ℕ) (token : TokenValue) (len : ℕ) → Good text (record { token = token; len = len }) → CanBeQuoted token
token_quotable text (Word word) len good = word_quotable (take len text) word (good (λ e. cc)).spelt
token_quotable text (Quoted name) len good = (good (λ e. cc)).spelt.name_is
token_quotable text (Number number) len good = tt
token_quotable text (Text bytes) len good = tt
token_quotable text (Sign sign) len good = tt
token_quotable text Bad len good = tt

quotable_within : (most place : ℕ) (text : List ℕ) → All CanBeQuoted (map said (lexemes_within most place text))
quotable_within zero place text = All-nil CanBeQuoted
quotable_within (suc most) place text = by_left (drop (blanks text) text) (quotable_within most)
  where
    by_left : (left : List ℕ) → ((p : ℕ) (t : List ℕ) → All CanBeQuoted (map said (lexemes_within most p t)))
        → All CanBeQuoted
        (map said (option_map_or (λ (p : Piece). record { place = place + blanks text; token = p.token } ∷ lexemes_within most (place + blanks text + p.len) (drop p.len left)) (first_token left) []))
    by_left [] later = All-nil CanBeQuoted
    by_left (byte ∷ more) later =
        let piece : Piece = token_with byte (byte ∷ more) in
        All-cons CanBeQuoted piece.token (map said (lexemes_within most (place + blanks text + piece.len) (drop piece.len (byte ∷ more))))
        (token_quotable (byte ∷ more) piece.token piece.len (piece_good byte more))
        (later (place + blanks text + piece.len) (drop piece.len (byte ∷ more)))

pub names_quotable : (text : List ℕ) → All CanBeQuoted (tokens_of text)
unfolding lexemes_from
names_quotable text = quotable_within (length text) 0 text
