-- What is printed is read again.
use Rattle.std.proofs.Common.{◌≡◌, ℕ, ◌<◌, ◌^◌, zero, suc, true, Some, List, [], ◌∷◌, ◌++◌, map, get_or, refl, ap, sym, ◌∙◌, arith, lit<, All}
use Rattle.std.proofs.lemmas.Bool.Decides.{nat_tests}
use Rattle.std.proofs.lemmas.Fmt.{decimal_is_IsNumeral, length-decimal-le}
use Rattle.std.proofs.lemmas.Str.Parse.{digit_at}
use Rattle.std.proofs.lemmas.List.{get_or_default}
use Rattle.std.specs.Fmt.{decimal}
use Rattle.std.specs.List.{AllPass}
use Rattle.std.specs.Char.{is_ascii_digit}
use Rattle.std.specs.Int.{IsInRange}
use Rattle.stmt_token.specs.declared.sign.Sign.TheVariants as sign
use Rattle.stmt_token.specs.Bytes.{is_blank}
use Rattle.stmt_token.specs.Signs.{sign_spelling}
use Rattle.stmt_token.specs.Tokens.{TokenValue, Word, Quoted, Number, Text, Sign, Bad, tokens_of}
use Rattle.stmt_token.specs.Spelling.{SpellsNumber, sign_of, Spells, Spaced, IsSpaced, spaced_text, spelling_of, IsToken, printed}
use Rattle.stmt_token.proofs.Spelt.{blanks_nothing}

-- a number of at most 18 digits is spelt by its digits
in_range_digit : (byte : ℕ) → IsInRange 48 57 byte → is_ascii_digit byte ≡ true
in_range_digit byte is = grind (arith, nat_tests)

number_spelt : (number : ℕ) → number < 10 ^ 18 → SpellsNumber (decimal number) number
number_spelt number small =
    let wide : number < 2 ^ 64 = omega arith in
    record {
      digits = λ k d before.
          let at : is_ascii_digit (get_or (decimal number) k 0) ≡ true =
          in_range_digit (get_or (decimal number) k 0) (digit_at (decimal number) k (decimal_is_IsNumeral number wide).0.1 before) in
          ap is_ascii_digit (get_or_default (decimal number) k d 0 before) ∙ at;
      some = (decimal_is_IsNumeral number wide).0.0;
      size = length-decimal-le 18 number (lit< tt) small wide;
      is = (decimal_is_IsNumeral number wide).1;
    }

sign_spelt : (s : sign.the_data) → sign_of (sign_spelling s) ≡ Some s
sign_spelt sign.LeftParen = refl
sign_spelt sign.RightParen = refl
sign_spelt sign.Comma = refl
sign_spelt sign.Semicolon = refl
sign_spelt sign.Dot = refl
sign_spelt sign.Minus = refl
sign_spelt sign.LeftBracket = refl
sign_spelt sign.RightBracket = refl
sign_spelt sign.Equal = refl
sign_spelt sign.NotEqual = refl
sign_spelt sign.Less = refl
sign_spelt sign.LessEqual = refl
sign_spelt sign.Greater = refl
sign_spelt sign.GreaterEqual = refl
sign_spelt sign.TypeCast = refl

spelt : (token : TokenValue) → IsToken token → Spells (spelling_of token) token
spelt (Word word) is = is
spelt (Quoted name) is = record { name_is = is; is = refl }
spelt (Number number) is = number_spelt number is
spelt (Text text) is = refl
spelt (Sign s) is = sign_spelt s
spelt Bad is = absurd is

abbrev with_space : TokenValue → Spaced
with_space token = record { token = token; bytes = spelling_of token; blanks = 32 ∷ [] }

space : AllPass is_blank (32 ∷ [])
space zero d before = refl
space (suc k) d before = absurd (omega arith)

each_spaced : (tokens : List TokenValue) → All IsToken tokens → All IsSpaced (map with_space tokens)
each_spaced [] all k d before = absurd (omega arith)
each_spaced (token ∷ tokens) all zero d before =
    record { spelt = spelt token (all zero token (omega arith)); blank = space; some = lit< tt }
each_spaced (token ∷ tokens) all (suc k) d before = each_spaced tokens (λ i e b. all (suc i) e (omega arith)) k d (omega arith)

same_text : (tokens : List TokenValue) → spaced_text (map with_space tokens) ≡ printed tokens
same_text [] = refl
same_text (token ∷ tokens) = ap (λ (l : List ℕ). (spelling_of token ++ 32 ∷ []) ++ l) (same_text tokens)

same_tokens : (tokens : List TokenValue) → map (λ (piece : Spaced). piece.token) (map with_space tokens) ≡ tokens
same_tokens [] = refl
same_tokens (token ∷ tokens) = ap (λ (ts : List TokenValue). token ∷ ts) (same_tokens tokens)

pub printed_read : (tokens : List TokenValue) → All IsToken tokens → tokens_of (printed tokens) ≡ tokens
printed_read tokens all =
    ap tokens_of (sym (same_text tokens))
    ∙ blanks_nothing [] (map with_space tokens) (λ k d before. absurd (omega arith)) (each_spaced tokens all)
    ∙ same_tokens tokens
