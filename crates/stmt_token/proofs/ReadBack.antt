-- What is read as tokens is spelt as them.
use Rattle.std.proofs.Common.{◌≡◌, ◌≢◌, ℕ, ◌+◌, ◌<◌, ◌≤◌, zero, suc, Bool, true, false, if◌then◌else◌, ◌==◌, ◌&&◌, nat_lt, nat_le, Option, Some, None, is_some, List, [], ◌∷◌, ◌++◌, length, take, drop, map, get_or, refl, ap, sym, ◌∙◌, subst, arith, append-nil, All}
use Rattle.std.proofs.lemmas.List.{take-append-drop, length-drop, length-take-le, get_or-take, take_more}
use Rattle.std.proofs.lemmas.List.Sums.{prefix_len-le-length, prefix_len_passes}
use Rattle.std.proofs.lemmas.Bool.Decides.{nat_tests}
use Rattle.std.specs.Option.{option_map_or, option_map}
use Rattle.std.specs.List.{prefix_len, AllPass}
use Rattle.std.specs.Char.{is_ascii_digit}
use Rattle.std.specs.Str.Parse.{digits_value}
use Rattle.stmt_token.specs.declared.sign.Sign as sign
use Rattle.stmt_token.specs.Bytes.{is_blank, is_word_start, is_word_part, is_name_part, lowered}
use Rattle.stmt_token.specs.Signs.{sign_of_byte, sign_of_pair}
use Rattle.stmt_token.specs.Tokens.{TokenValue, Word, Quoted, Number, Text, Sign, Bad, Lexeme, Piece, bad, undoubled, string_end, first_quoted, first_string, short_sign, first_sign, token_with, first_token, blanks, lexemes_within, lexemes_from, tokens_of}
use Rattle.stmt_token.specs.Spelling.{Stops, Starts, doubled, sign_of, Spells, Ends, IsTextOf}
use Rattle.stmt_token.proofs.Strings.{undoubled-other}
use Rattle.stmt_token.proofs.Steps.{token_takes}

-- a run passes, and what is behind it stops it
run_passes : (p : ℕ → Bool) (xs : List ℕ) (n : ℕ) → n ≡ prefix_len p xs → AllPass p (take n xs)
run_passes p xs n is k d before =
    let within : n ≤ length xs = omega (arith, prefix_len-le-length p xs) in
    let here : k < n = omega (arith, length-take-le n xs within) in
    let own : k < prefix_len p xs = omega arith in
    ap p (get_or-take n xs k d here) ∙ prefix_len_passes p xs k d own

one_more : (n : ℕ) → 1 + n ≡ suc n
one_more n = omega arith

run_stops : (p : ℕ → Bool) (xs : List ℕ) → Stops p (drop (prefix_len p xs) xs)
run_stops p [] = tt
run_stops p (x ∷ xs) = by_first p x xs (p x) refl (run_stops p xs)
  where
    by_first : (p : ℕ → Bool) (x : ℕ) (xs : List ℕ) (passes : Bool) → p x ≡ passes → Stops p (drop (prefix_len p xs) xs)
        → Stops p (drop (prefix_len p (x ∷ xs)) (x ∷ xs))
    by_first p x xs true is rest = rw (is, one_more (prefix_len p xs)) rest
    by_first p x xs false is rest = rw is is

-- how a piece of a text is spelt
pub record IsSpelt (text : List ℕ) (piece : Piece) : Type 0 where
  pub spelt : Spells (take piece.len text) piece.token
  pub ends : Ends (take piece.len text) piece.token (drop piece.len text)

abbrev pub Good : List ℕ → Piece → Type 0
Good text piece = piece.token ≢ Bad → IsSpelt text piece

good_bad : (text : List ℕ) → Good text (bad text)
good_bad text not_bad = absurd (not_bad refl)

good_if : (text : List ℕ) (test : Bool) (p q : Piece) → (test ≡ true → Good text p) → (test ≡ false → Good text q)
    → Good text (if test then p else q)
good_if text true p q first second = first refl
good_if text false p q first second = second refl

starts_run : (first : ℕ → Bool) (text : List ℕ) (n : ℕ) → Starts first text → 0 < n → Starts first (take n text)
starts_run first [] n starts some = absurd starts
starts_run first (byte ∷ more) zero starts some = absurd (omega arith)
starts_run first (byte ∷ more) (suc n) starts some = starts

word_good : (text : List ℕ) (len : ℕ) → len ≡ prefix_len is_word_part text → Starts is_word_start text → 0 < len
    → Good text (if nat_le len 63 then record { token = Word (lowered (take len text)); len = len } else bad text)
word_good text len is start some =
    good_if text (nat_le len 63) (record { token = Word (lowered (take len text)); len = len }) (bad text)
    (λ fits not_bad.
    let small : len ≤ 63 = grind (arith, nat_tests) in
    record {
      spelt = record {
        start = starts_run is_word_start text len start some;
        parts = run_passes is_word_part text len is;
        size = omega (arith, length-take-le len text (omega (arith, prefix_len-le-length is_word_part text)));
        is = refl;
      };
      ends = subst (λ (n : ℕ). Stops is_word_part (drop n text)) (sym is) (run_stops is_word_part text);
    })
    (λ _. good_bad text)

number_good : (text : List ℕ) (len : ℕ) → len ≡ prefix_len is_ascii_digit text → 0 < len
    → Good text (if nat_le len 18 then record { token = Number (digits_value 10 (take len text)); len = len } else bad text)
number_good text len is some =
    good_if text (nat_le len 18) (record { token = Number (digits_value 10 (take len text)); len = len }) (bad text)
    (λ fits not_bad.
    let small : len ≤ 18 = grind (arith, nat_tests) in
    let size : length (take len text) ≡ len = length-take-le len text (omega (arith, prefix_len-le-length is_ascii_digit text)) in
    record {
      spelt = record {
        digits = run_passes is_ascii_digit text len is;
        some = omega arith;
        size = omega arith;
        is = refl;
      };
      ends = subst (λ (n : ℕ). Stops is_ascii_digit (drop n text)) (sym is) (run_stops is_ascii_digit text);
    })
    (λ _. good_bad text)

stands_within : (xs : List ℕ) (n byte : ℕ) → get_or xs n 0 ≡ byte → 0 < byte → n < length xs
stands_within [] n byte is some = absurd (omega arith)
stands_within (x ∷ xs) zero byte is some = omega arith
stands_within (x ∷ xs) (suc n) byte is some = omega (arith, stands_within xs n byte is some)

-- bytes between marks
between : (mark : ℕ) (inside : List ℕ) (n : ℕ) → get_or inside n 0 ≡ mark → 0 < mark
    → take (n + 2) (mark ∷ inside) ≡ mark ∷ (take n inside ++ mark ∷ [])
between mark inside n is some =
    let two : n + 2 ≡ suc (n + 1) = omega arith in
    ap (λ (k : ℕ). take k (mark ∷ inside)) two
    ∙ ap (λ (l : List ℕ). mark ∷ l)
    (take_more inside n 0 (stands_within inside n mark is some) ∙ ap (λ (b : ℕ). take n inside ++ b ∷ []) is)

quoted_good : (inside : List ℕ) (len : ℕ) → len ≡ prefix_len is_name_part inside
    → Good (34 ∷ inside)
    (if (nat_lt 0 len && nat_le len 63) && get_or inside len 0 == 34 then record { token = Quoted (take len inside); len = len + 2 } else bad (34 ∷ inside))
quoted_good inside len is =
    good_if (34 ∷ inside) ((nat_lt 0 len && nat_le len 63) && get_or inside len 0 == 34)
    (record { token = Quoted (take len inside); len = len + 2 }) (bad (34 ∷ inside))
    (λ fits not_bad.
    let some : 0 < len = grind (arith, nat_tests) in
    let small : len ≤ 63 = grind (arith, nat_tests) in
    let end : get_or inside len 0 ≡ 34 = grind (arith, nat_tests) in
    let size : length (take len inside) ≡ len = length-take-le len inside (omega (arith, prefix_len-le-length is_name_part inside)) in
    record {
      spelt = record {
        name_is = record { parts = run_passes is_name_part inside len is; some = omega arith; size = omega arith };
        is = between 34 inside len end (omega arith);
      };
      ends = tt;
    })
    (λ _. good_bad (34 ∷ inside))

-- a string's bytes up to its end are its bytes doubled, and what is behind the end is no quote
record EndsAt (inside : List ℕ) (end : ℕ) : Type 0 where
  is : doubled (undoubled (take end inside)) ≡ take end inside
  quote : get_or inside end 0 ≡ 39
  stops : Stops (λ byte. byte == 39) (drop (suc end) inside)

same_some : (m n : ℕ) → Some m ≡ Some n → m ≡ n
same_some m n e = cc

further_end : (end : Option ℕ) (n e : ℕ) → option_map (λ k. n + k) end ≡ Some e → (k : ℕ) × (end ≡ Some k) × (e ≡ n + k)
further_end None n e is = cc
further_end (Some k) n e is = (k, refl, sym (same_some (n + k) e is))

lone_end : (byte : ℕ) (behind : List ℕ) (end : ℕ) → (byte == 39) ≡ true → Stops (λ (b : ℕ). b == 39) behind → 0 ≡ end → EndsAt (byte ∷ behind) end
lone_end byte behind end quote stops is =
    subst (EndsAt (byte ∷ behind)) is (record { is = refl; quote = grind (arith, nat_tests); stops = stops })

doubled_end : (byte next : ℕ) (behind : List ℕ) (k end : ℕ) → (byte == 39) ≡ true → (next == 39) ≡ true → EndsAt behind k → end ≡ 2 + k
    → EndsAt (byte ∷ next ∷ behind) end
doubled_end byte next behind k end first second ends is =
    let two : suc (suc k) ≡ end = omega arith in
    let a : 39 ≡ byte = grind (arith, nat_tests) in
    let b : 39 ≡ next = grind (arith, nat_tests) in
    subst (EndsAt (byte ∷ next ∷ behind)) two
    (subst (λ (x : ℕ). EndsAt (x ∷ next ∷ behind) (suc (suc k))) a
    (subst (λ (y : ℕ). EndsAt (39 ∷ y ∷ behind) (suc (suc k))) b
    (record { is = ap (λ (l : List ℕ). 39 ∷ 39 ∷ l) ends.is; quote = ends.quote; stops = ends.stops })))

other_end : (byte : ℕ) (behind : List ℕ) (k end : ℕ) → (byte == 39) ≡ false → EndsAt behind k → end ≡ 1 + k → EndsAt (byte ∷ behind) end
other_end byte behind k end lone ends is =
    let one : suc k ≡ end = omega arith in
    let other : byte ≢ 39 = λ e. grind (arith, nat_tests) in
    subst (EndsAt (byte ∷ behind)) one
    (record {
      is = ap doubled (undoubled-other byte (take k behind) other) ∙ rw lone (ap (λ (l : List ℕ). byte ∷ l) ends.is);
      quote = ends.quote;
      stops = ends.stops;
    })

string_back : (inside : List ℕ) (end : ℕ) → string_end inside ≡ Some end → EndsAt inside end
string_back [] end is = cc
string_back (byte ∷ []) end is = only (byte == 39) refl is
  where
    only : (quote : Bool) → (byte == 39) ≡ quote → (if quote then Some 0 else None) ≡ Some end → EndsAt (byte ∷ []) end
    only true e found = lone_end byte [] end e tt (same_some 0 end found)
    only false e found = cc
string_back (byte ∷ next ∷ behind) end is =
    pick (byte == 39) (next == 39) refl refl is (string_back behind) (string_back (next ∷ behind))
  where
    pick : (first second : Bool) → (byte == 39) ≡ first → (next == 39) ≡ second
        → (if first then (if second then option_map (λ e. 2 + e) (string_end behind) else Some 0) else option_map (λ e. 1 + e) (string_end (next ∷ behind))) ≡ Some end
        → ((e : ℕ) → string_end behind ≡ Some e → EndsAt behind e)
        → ((e : ℕ) → string_end (next ∷ behind) ≡ Some e → EndsAt (next ∷ behind) e)
        → EndsAt (byte ∷ next ∷ behind) end
    pick true true a b found two one =
        let later : (k : ℕ) × (string_end behind ≡ Some k) × (end ≡ 2 + k) = further_end (string_end behind) 2 end found in
        doubled_end byte next behind later.0 end a b (two later.0 later.1) later.2
    pick true false a b found two one = lone_end byte (next ∷ behind) end a b (same_some 0 end found)
    pick false second a b found two one =
        let later : (k : ℕ) × (string_end (next ∷ behind) ≡ Some k) × (end ≡ 1 + k) = further_end (string_end (next ∷ behind)) 1 end found in
        other_end byte (next ∷ behind) later.0 end a (one later.0 later.1) later.2

string_good : (inside : List ℕ) (end : Option ℕ) → string_end inside ≡ end
    → Good (39 ∷ inside) (option_map_or (λ (e : ℕ). record { token = Text (undoubled (take e inside)); len = e + 2 }) end (bad (39 ∷ inside)))
string_good inside None is = good_bad (39 ∷ inside)
string_good inside (Some e) is = λ not_bad.
    let ends : EndsAt inside e = string_back inside e is in
    let two : suc (suc e) ≡ e + 2 = omega arith in
    record {
      spelt = between 39 inside e ends.quote (omega arith) ∙ ap (λ (l : List ℕ). 39 ∷ (l ++ 39 ∷ [])) (sym ends.is);
      ends = subst (λ (n : ℕ). Stops (λ (b : ℕ). b == 39) (drop n (39 ∷ inside))) two ends.stops;
    }

short_good : (byte : ℕ) (more : List ℕ) (s : Option sign.Sign) → sign_of_byte byte ≡ s
    → Stops (λ (b : ℕ). is_some (sign_of (byte ∷ b ∷ []))) more
    → Good (byte ∷ more) (option_map_or (λ (x : sign.Sign). record { token = Sign x; len = 1 }) s (bad (byte ∷ more)))
short_good byte more None is stops = good_bad (byte ∷ more)
short_good byte more (Some x) is stops = λ not_bad. record { spelt = is; ends = stops }

sign_good : (byte : ℕ) (more : List ℕ) → Good (byte ∷ more) (first_sign (byte ∷ more))
sign_good byte [] = short_good byte [] (sign_of_byte byte) refl tt
sign_good byte (next ∷ more) = by_pair (sign_of_pair byte next) refl
  where
    nothing_third : (l : List ℕ) → Stops (λ (b : ℕ). is_some (sign_of (byte ∷ next ∷ b ∷ []))) l
    nothing_third [] = tt
    nothing_third (b ∷ l) = refl

    by_pair : (s : Option sign.Sign) → sign_of_pair byte next ≡ s
        → Good (byte ∷ next ∷ more)
        (option_map_or (λ (x : sign.Sign). record { token = Sign x; len = 2 }) s (short_sign byte (byte ∷ next ∷ more)))
    by_pair None is = short_good byte (next ∷ more) (sign_of_byte byte) refl (ap is_some is)
    by_pair (Some x) is = λ not_bad. record { spelt = is; ends = nothing_third more }

pub piece_good : (byte : ℕ) (more : List ℕ) → Good (byte ∷ more) (token_with byte (byte ∷ more))
piece_good byte more =
    good_if (byte ∷ more) (is_word_start byte) _ _
    (λ start. word_good (byte ∷ more) (prefix_len is_word_part (byte ∷ more)) refl start (grind (arith, nat_tests)))
    (λ _. good_if (byte ∷ more) (is_ascii_digit byte) _ _
    (λ digit. number_good (byte ∷ more) (prefix_len is_ascii_digit (byte ∷ more)) refl (grind (arith, nat_tests)))
    (λ _. good_if (byte ∷ more) (byte == 34) _ _
    (λ mark. subst (λ (b : ℕ). Good (b ∷ more) (first_quoted (b ∷ more))) (the_mark 34 mark) (quoted_good more (prefix_len is_name_part more) refl))
    (λ _. good_if (byte ∷ more) (byte == 39) _ _
    (λ mark. subst (λ (b : ℕ). Good (b ∷ more) (first_string (b ∷ more))) (the_mark 39 mark) (string_good more (string_end more) refl))
    (λ _. sign_good byte more))))
  where
    the_mark : (n : ℕ) → (byte == n) ≡ true → n ≡ byte
    the_mark n is = grind (arith, nat_tests)

abbrev pub said : Lexeme → TokenValue
said lexeme = lexeme.token

abbrev NoneBad : List TokenValue → Type 0
NoneBad tokens = All (λ token. token ≢ Bad) tokens

back_within : (most place : ℕ) (text : List ℕ) → length text ≤ most → NoneBad (map said (lexemes_within most place text))
    → IsTextOf (map said (lexemes_within most place text)) text
back_within zero place [] fits good = λ k d before. absurd (omega arith)
back_within zero place (byte ∷ more) fits good = absurd (omega arith)
back_within (suc most) place text fits good =
    by_left (blanks text) (drop (blanks text) text) refl refl (λ p t. back_within most p t) good
  where
    at : ℕ
    at = place + blanks text

    by_left : (n : ℕ) (left : List ℕ) → n ≡ blanks text → left ≡ drop n text
        → ((p : ℕ) (t : List ℕ) → length t ≤ most → NoneBad (map said (lexemes_within most p t)) → IsTextOf (map said (lexemes_within most p t)) t)
        → NoneBad (map said (option_map_or (λ (p : Piece). record { place = place + n; token = p.token } ∷ lexemes_within most (place + n + p.len) (drop p.len left)) (first_token left) []))
        → IsTextOf (map said (option_map_or (λ (p : Piece). record { place = place + n; token = p.token } ∷ lexemes_within most (place + n + p.len) (drop p.len left)) (first_token left) [])) text
    by_left n [] is left_is later good =
        subst (AllPass is_blank)
        (sym (append-nil (take n text)) ∙ ap (λ (l : List ℕ). take n text ++ l) left_is ∙ take-append-drop n text) (run_passes is_blank text n is)
    by_left n (byte ∷ more) is left_is later good =
        let piece : Piece = token_with byte (byte ∷ more) in
        let spelt : IsSpelt (byte ∷ more) piece = piece_good byte more (good 0 Bad (omega arith)) in
        let shorter : length (drop piece.len (byte ∷ more)) ≤ most =
        omega (arith, length-drop piece.len (byte ∷ more), token_takes byte more, ap length left_is, length-drop n text) in (
          drop piece.len (byte ∷ more),
          record {
            front = take n text;
            bytes = take piece.len (byte ∷ more);
            blank = run_passes is_blank text n is;
            spelt = spelt.spelt;
            ends = spelt.ends;
            split = sym (ap (λ (l : List ℕ). take n text ++ l) (take-append-drop piece.len (byte ∷ more) ∙ left_is) ∙ take-append-drop n text);
          },
          later (place + n + piece.len) (drop piece.len (byte ∷ more)) shorter (λ k d before. good (suc k) d (omega arith)),
        )

pub read_back : (text : List ℕ) → NoneBad (tokens_of text) → IsTextOf (tokens_of text) text
unfolding lexemes_from
read_back text good = back_within (length text) 0 text (omega arith) good
