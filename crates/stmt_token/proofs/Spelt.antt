-- What is spelt as a token is read as it.
use Rattle.std.proofs.Common.{◌≡◌, ◌≢◌, ℕ, ◌+◌, ◌<◌, suc, Bool, true, false, if◌then◌else◌, ◌==◌, ◌&&◌, nat_lt, nat_le, Option, Some, None, is_some, List, [], ◌∷◌, ◌++◌, length, take, drop, map, get_or, refl, ap, sym, ◌∙◌, subst, arith, append_assoc, append-nil, length-append, All}
use Rattle.std.proofs.Math.Seq.{take-append_seam, drop-append_seam}
use Rattle.std.proofs.lemmas.List.Sums.{list_all-from_AllPass}
use Rattle.std.proofs.lemmas.Bool.Decides.{nat_tests}
use Rattle.std.specs.Option.{option_map_or, option_map}
use Rattle.std.specs.List.{prefix_len, list_all, AllPass}
use Rattle.std.specs.Char.{is_ascii_digit}
use Rattle.stmt_token.specs.declared.sign.Sign as sign
use Rattle.stmt_token.specs.Bytes.{is_blank, is_word_start, is_word_part, is_name_part}
use Rattle.stmt_token.specs.Signs.{sign_of_byte, sign_of_pair}
use Rattle.stmt_token.specs.Tokens.{TokenValue, Word, Quoted, Number, Text, Sign, Bad, Lexeme, Piece, undoubled, string_end, first_word, first_number, first_quoted, first_string, token_with, first_token, blanks, lexemes_from, tokens_of}
use Rattle.stmt_token.specs.Spelling.{Stops, Starts, SpellsWord, IsQuotable, SpellsNumber, doubled, sign_of, Spells, Ends, IsTextOf, Spaced, IsSpaced, spaced_text}
use Rattle.stmt_token.proofs.Strings.{end-other, undoubled-other}
use Rattle.stmt_token.proofs.Steps.{lexemes_from-step}

-- a run of bytes goes as far as they pass
span : (p : ℕ → Bool) (xs behind : List ℕ) → list_all p xs ≡ true → Stops p behind → prefix_len p (xs ++ behind) ≡ length xs
span p [] [] all stops = refl
span p [] (byte ∷ behind) all stops = rw stops refl
span p (x ∷ xs) behind all stops =
    let head : p x ≡ true = first_passes (p x) (list_all p xs) all in
    let tail : list_all p xs ≡ true = rest_pass (p x) (list_all p xs) all in
    rw head (ap (λ (n : ℕ). 1 + n) (span p xs behind tail stops) ∙ omega arith)
  where
    first_passes : (a b : Bool) → (a && b) ≡ true → a ≡ true
    first_passes true b e = refl
    first_passes false b e = cc

    rest_pass : (a b : Bool) → (a && b) ≡ true → b ≡ true
    rest_pass true b e = e
    rest_pass false b e = cc

pub passing_run : (p : ℕ → Bool) (xs behind : List ℕ) → AllPass p xs → Stops p behind → prefix_len p (xs ++ behind) ≡ length xs
passing_run p xs behind all stops = span p xs behind (list_all-from_AllPass p xs all) stops

-- a token and how many bytes it takes
abbrev piece_of : TokenValue → List ℕ → Piece
piece_of token bytes = record { token = token; len = length bytes }

word_read : (text bytes behind word : List ℕ) → SpellsWord bytes word → Stops is_word_part behind → text ≡ bytes ++ behind
    → first_word text ≡ piece_of (Word word) bytes
word_read text bytes behind word spelt stops split =
    let len : prefix_len is_word_part text ≡ length bytes = ap (prefix_len is_word_part) split ∙ passing_run is_word_part bytes behind spelt.parts stops in
    let inside : take (length bytes) text ≡ bytes = ap (take (length bytes)) split ∙ take-append_seam bytes behind in
    let fits : nat_le (length bytes) 63 ≡ true = grind (arith, nat_tests, spelt.size) in
    rw (len, fits, inside, spelt.is) refl

number_read : (text bytes behind : List ℕ) (number : ℕ) → SpellsNumber bytes number → Stops is_ascii_digit behind → text ≡ bytes ++ behind
    → first_number text ≡ piece_of (Number number) bytes
number_read text bytes behind number spelt stops split =
    let len : prefix_len is_ascii_digit text ≡ length bytes = ap (prefix_len is_ascii_digit) split ∙ passing_run is_ascii_digit bytes behind spelt.digits stops in
    let inside : take (length bytes) text ≡ bytes = ap (take (length bytes)) split ∙ take-append_seam bytes behind in
    let fits : nat_le (length bytes) 18 ≡ true = grind (arith, nat_tests, spelt.size) in
    rw (len, fits, inside, spelt.is) refl

at_seam : (xs behind : List ℕ) (byte : ℕ) → get_or (xs ++ byte ∷ behind) (length xs) 0 ≡ byte
at_seam [] behind byte = refl
at_seam (x ∷ xs) behind byte = at_seam xs behind byte

quoted_read : (name behind : List ℕ) → IsQuotable name
    → first_quoted (34 ∷ (name ++ 34 ∷ behind)) ≡ record { token = Quoted name; len = length name + 2 }
quoted_read name behind is =
    let len : prefix_len is_name_part (name ++ 34 ∷ behind) ≡ length name = passing_run is_name_part name (34 ∷ behind) is.parts refl in
    let inside : take (length name) (name ++ 34 ∷ behind) ≡ name = take-append_seam name (34 ∷ behind) in
    let end : get_or (name ++ 34 ∷ behind) (length name) 0 ≡ 34 = at_seam name behind 34 in
    let some : nat_lt 0 (length name) ≡ true = grind (arith, nat_tests, is.some) in
    let fits : nat_le (length name) 63 ≡ true = grind (arith, nat_tests, is.size) in
    rw (len, some, fits, end, inside) refl

-- a string is read up to its end
end_found : (text behind : List ℕ) → Stops (λ (byte : ℕ). byte == 39) behind
    → string_end (doubled text ++ 39 ∷ behind) ≡ Some (length (doubled text))
end_found [] [] stops = refl
end_found [] (next ∷ more) stops = rw stops refl
end_found (byte ∷ text) behind stops = end_next byte text behind (byte == 39) refl (end_found text behind stops)
  where
    later : (n : ℕ) (end : Option ℕ) (m : ℕ) → end ≡ Some m → option_map (λ e. n + e) end ≡ Some (n + m)
    later n end m is = ap (option_map (λ (e : ℕ). n + e)) is

    end_next : (byte : ℕ) (text behind : List ℕ) (quote : Bool) → (byte == 39) ≡ quote
        → string_end (doubled text ++ 39 ∷ behind) ≡ Some (length (doubled text))
        → string_end (doubled (byte ∷ text) ++ 39 ∷ behind) ≡ Some (length (doubled (byte ∷ text)))
    end_next byte text behind true is found =
        rw is (later 2 (string_end (doubled text ++ 39 ∷ behind)) (length (doubled text)) found ∙ ap Some (omega arith))
    end_next byte text behind false is found =
        let other : byte ≢ 39 = λ e. grind (arith, nat_tests) in
        rw is
        (end-other byte (doubled text ++ 39 ∷ behind) other
        ∙ later 1 (string_end (doubled text ++ 39 ∷ behind)) (length (doubled text)) found ∙ ap Some (omega arith))

-- doubling quotes and undoing it
pub undoubled-doubled : (text : List ℕ) → undoubled (doubled text) ≡ text
undoubled-doubled [] = refl
undoubled-doubled (byte ∷ text) = next_undoubled byte text (byte == 39) refl (undoubled-doubled text)
  where
    next_undoubled : (byte : ℕ) (text : List ℕ) (quote : Bool) → (byte == 39) ≡ quote → undoubled (doubled text) ≡ text
        → undoubled (doubled (byte ∷ text)) ≡ byte ∷ text
    next_undoubled byte text true is back =
        let quote : 39 ≡ byte = grind (arith, nat_tests) in
        rw is (ap (λ (l : List ℕ). 39 ∷ l) back ∙ ap (λ (b : ℕ). b ∷ text) quote)
    next_undoubled byte text false is back =
        let other : byte ≢ 39 = λ e. grind (arith, nat_tests) in
        rw is (undoubled-other byte (doubled text) other ∙ ap (λ (l : List ℕ). byte ∷ l) back)

string_read : (text behind : List ℕ) → Stops (λ (byte : ℕ). byte == 39) behind
    → first_string (39 ∷ (doubled text ++ 39 ∷ behind)) ≡ record { token = Text text; len = length (doubled text) + 2 }
string_read text behind stops =
    let end : string_end (doubled text ++ 39 ∷ behind) ≡ Some (length (doubled text)) = end_found text behind stops in
    let inside : take (length (doubled text)) (doubled text ++ 39 ∷ behind) ≡ doubled text = take-append_seam (doubled text) (39 ∷ behind) in
    rw (end, inside, undoubled-doubled text) refl

-- a byte that begins a sign begins nothing else
record Plain (byte : ℕ) : Type 0 where
  no_word : is_word_start byte ≡ false
  no_digit : is_ascii_digit byte ≡ false
  no_name : (byte == 34) ≡ false
  no_string : (byte == 39) ≡ false
  no_blank : is_blank byte ≡ false

plain_next : (byte : ℕ) (test : Bool) (s x : sign.Sign) (other : Option sign.Sign)
    → (test ≡ true → Plain byte) → (other ≡ Some x → Plain byte) → (if test then Some s else other) ≡ Some x → Plain byte
plain_next byte true s x other here there is = here refl
plain_next byte false s x other here there is = there is

plain_at : (byte n : ℕ) → Plain n → (byte == n) ≡ true → Plain byte
plain_at byte n plain is =
    let same : n ≡ byte = grind (arith, nat_tests) in
    subst Plain same plain

plain_at_pair : (byte next n m : ℕ) → Plain n → (byte == n && next == m) ≡ true → Plain byte
plain_at_pair byte next n m plain is =
    let same : n ≡ byte = grind (arith, nat_tests) in
    subst Plain same plain

known : (n : ℕ) → is_word_start n ≡ false → is_ascii_digit n ≡ false → (n == 34) ≡ false → (n == 39) ≡ false → is_blank n ≡ false → Plain n
known n a b c d e = record { no_word = a; no_digit = b; no_name = c; no_string = d; no_blank = e }

none : (byte : ℕ) (x : sign.Sign) → None ≡ Some x → Plain byte
none byte x is = cc

byte_plain : (byte : ℕ) (x : sign.Sign) → sign_of_byte byte ≡ Some x → Plain byte
byte_plain byte x =
    plain_next byte (byte == 40) _ x _ (plain_at byte 40 (known 40 refl refl refl refl refl))
    (plain_next byte (byte == 41) _ x _ (plain_at byte 41 (known 41 refl refl refl refl refl))
    (plain_next byte (byte == 44) _ x _ (plain_at byte 44 (known 44 refl refl refl refl refl))
    (plain_next byte (byte == 59) _ x _ (plain_at byte 59 (known 59 refl refl refl refl refl))
    (plain_next byte (byte == 46) _ x _ (plain_at byte 46 (known 46 refl refl refl refl refl))
    (plain_next byte (byte == 45) _ x _ (plain_at byte 45 (known 45 refl refl refl refl refl))
    (plain_next byte (byte == 91) _ x _ (plain_at byte 91 (known 91 refl refl refl refl refl))
    (plain_next byte (byte == 93) _ x _ (plain_at byte 93 (known 93 refl refl refl refl refl))
    (plain_next byte (byte == 61) _ x _ (plain_at byte 61 (known 61 refl refl refl refl refl))
    (plain_next byte (byte == 60) _ x _ (plain_at byte 60 (known 60 refl refl refl refl refl))
    (plain_next byte (byte == 62) _ x _ (plain_at byte 62 (known 62 refl refl refl refl refl))
    (none byte x)))))))))))

pair_plain : (byte next : ℕ) (x : sign.Sign) → sign_of_pair byte next ≡ Some x → Plain byte
pair_plain byte next x =
    plain_next byte (byte == 60 && next == 61) _ x _ (plain_at_pair byte next 60 61 (known 60 refl refl refl refl refl))
    (plain_next byte (byte == 62 && next == 61) _ x _ (plain_at_pair byte next 62 61 (known 62 refl refl refl refl refl))
    (plain_next byte (byte == 60 && next == 62) _ x _ (plain_at_pair byte next 60 62 (known 60 refl refl refl refl refl))
    (plain_next byte (byte == 33 && next == 61) _ x _ (plain_at_pair byte next 33 61 (known 33 refl refl refl refl refl))
    (plain_next byte (byte == 58 && next == 58) _ x _ (plain_at_pair byte next 58 58 (known 58 refl refl refl refl refl))
    (none byte x)))))

nothing_some : (sign : Option sign.Sign) → is_some sign ≡ false → sign ≡ None
nothing_some None is = refl
nothing_some (Some s) is = cc

sign_read : (bytes behind : List ℕ) (s : sign.Sign) → sign_of bytes ≡ Some s
    → Stops (λ (byte : ℕ). is_some (sign_of (bytes ++ byte ∷ []))) behind
    → first_token (bytes ++ behind) ≡ Some (piece_of (Sign s) bytes)
sign_read [] behind s is ends = cc
sign_read (byte ∷ []) [] s is ends =
    let plain : Plain byte = byte_plain byte s is in
    rw (plain.no_word, plain.no_digit, plain.no_name, plain.no_string, is) refl
sign_read (byte ∷ []) (next ∷ behind) s is ends =
    let plain : Plain byte = byte_plain byte s is in
    let alone : sign_of_pair byte next ≡ None = nothing_some (sign_of_pair byte next) ends in
    rw (plain.no_word, plain.no_digit, plain.no_name, plain.no_string, alone, is) refl
sign_read (byte ∷ next ∷ []) behind s is ends =
    let plain : Plain byte = pair_plain byte next s is in
    rw (plain.no_word, plain.no_digit, plain.no_name, plain.no_string, is) refl
sign_read (byte ∷ next ∷ third ∷ more) behind s is ends = cc

word_chosen : (byte : ℕ) (text : List ℕ) → is_word_start byte ≡ true → token_with byte text ≡ first_word text
word_chosen byte text start = rw start refl

number_chosen : (byte : ℕ) (text : List ℕ) → is_ascii_digit byte ≡ true → token_with byte text ≡ first_number text
number_chosen byte text digit =
    let no_word : is_word_start byte ≡ false = grind (arith, nat_tests) in rw (no_word, digit) refl

-- the bytes of each token are read as it
first_spelt : (token : TokenValue) (bytes behind : List ℕ) → Spells bytes token → Ends bytes token behind
    → first_token (bytes ++ behind) ≡ Some (piece_of token bytes)
first_spelt (Word word) [] behind spelt ends = absurd spelt.start
first_spelt (Word word) (byte ∷ more) behind spelt ends =
    ap Some
    (word_chosen byte (byte ∷ (more ++ behind)) spelt.start
    ∙ word_read (byte ∷ (more ++ behind)) (byte ∷ more) behind word spelt ends refl)
first_spelt (Quoted name) bytes behind spelt ends =
    ap first_token (ap (λ (l : List ℕ). l ++ behind) spelt.is ∙ ap (λ (l : List ℕ). 34 ∷ l) (append_assoc name (34 ∷ []) behind))
    ∙ ap Some (quoted_read name behind spelt.name_is)
    ∙ ap (λ (n : ℕ). Some (record { token = Quoted name; len = n })) (omega (arith, ap length spelt.is, length-append name (34 ∷ [])))
first_spelt (Number number) [] behind spelt ends = absurd (omega (arith, spelt.some))
first_spelt (Number number) (byte ∷ more) behind spelt ends =
    let digit : is_ascii_digit byte ≡ true = spelt.digits 0 0 (omega arith) in
    ap Some
    (number_chosen byte (byte ∷ (more ++ behind)) digit
    ∙ number_read (byte ∷ (more ++ behind)) (byte ∷ more) behind number spelt ends refl)
first_spelt (Text text) bytes behind spelt ends =
    ap first_token (ap (λ (l : List ℕ). l ++ behind) spelt ∙ ap (λ (l : List ℕ). 39 ∷ l) (append_assoc (doubled text) (39 ∷ []) behind))
    ∙ ap Some (string_read text behind ends)
    ∙ ap (λ (n : ℕ). Some (record { token = Text text; len = n })) (omega (arith, ap length spelt, length-append (doubled text) (39 ∷ [])))
first_spelt (Sign s) bytes behind spelt ends = sign_read bytes behind s spelt ends
first_spelt Bad bytes behind spelt ends = absurd spelt

-- no token begins with a blank
no_blank : (token : TokenValue) (bytes behind : List ℕ) → Spells bytes token → Stops is_blank (bytes ++ behind)
no_blank (Word word) [] behind spelt = absurd spelt.start
no_blank (Word word) (byte ∷ more) behind spelt = grind (arith, nat_tests, spelt.start)
no_blank (Quoted name) bytes behind spelt = subst (λ (l : List ℕ). Stops is_blank (l ++ behind)) (sym spelt.is) refl
no_blank (Number number) [] behind spelt = absurd (omega (arith, spelt.some))
no_blank (Number number) (byte ∷ more) behind spelt =
    let digit : is_ascii_digit byte ≡ true = spelt.digits 0 0 (omega arith) in
    grind (arith, nat_tests)
no_blank (Text text) bytes behind spelt = subst (λ (l : List ℕ). Stops is_blank (l ++ behind)) (sym spelt) refl
no_blank (Sign s) [] behind spelt = cc
no_blank (Sign s) (byte ∷ []) behind spelt = (byte_plain byte s spelt).no_blank
no_blank (Sign s) (byte ∷ next ∷ []) behind spelt = (pair_plain byte next s spelt).no_blank
no_blank (Sign s) (byte ∷ next ∷ third ∷ more) behind spelt = cc
no_blank Bad bytes behind spelt = absurd spelt

abbrev said : Lexeme → TokenValue
said lexeme = lexeme.token

abbrev own : ℕ → Option Piece → List ℕ → List Lexeme
own at piece left =
    option_map_or
    (λ (p : Piece). record { place = at; token = p.token } ∷ lexemes_from (at + p.len) (drop p.len left)) piece []

-- at any place, what is spelt as tokens is read as them
read_from : (tokens : List TokenValue) (place : ℕ) (text : List ℕ) → IsTextOf tokens text → map said (lexemes_from place text) ≡ tokens
read_from [] place text blank =
    let all : blanks text ≡ length text = run_through text blank in
    ap (map said)
    (lexemes_from-step place text
    ∙ ap (λ (n : ℕ). own (place + blanks text) (first_token (drop n text)) (drop n text)) all
    ∙ ap (λ (l : List ℕ). own (place + blanks text) (first_token l) l) (nothing text))
  where
    run_through : (l : List ℕ) → AllPass is_blank l → blanks l ≡ length l
    run_through l passes = ap blanks (sym (append-nil l)) ∙ passing_run is_blank l [] passes tt

    nothing : (l : List ℕ) → drop (length l) l ≡ []
    nothing [] = refl
    nothing (x ∷ xs) = nothing xs
read_from (token ∷ tokens) place text (behind, begins, rest) =
    let bytes : List ℕ = begins.bytes in
    let skipped : blanks text ≡ length begins.front =
    ap blanks begins.split ∙ passing_run is_blank begins.front (bytes ++ behind) begins.blank (no_blank token bytes behind begins.spelt) in
    let left : drop (blanks text) text ≡ bytes ++ behind =
    ap (λ (n : ℕ). drop n text) skipped ∙ ap (drop (length begins.front)) begins.split ∙ drop-append_seam begins.front (bytes ++ behind) in
    let at : ℕ = place + blanks text in
    ap (map said)
    (lexemes_from-step place text
    ∙ ap (λ (l : List ℕ). own at (first_token l) l) left
    ∙ ap (λ (p : Option Piece). own at p (bytes ++ behind)) (first_spelt token bytes behind begins.spelt begins.ends))
    ∙ ap (λ (l : List ℕ). token ∷ map said (lexemes_from (at + length bytes) l)) (drop-append_seam bytes behind)
    ∙ ap (λ (ts : List TokenValue). token ∷ ts) (read_from tokens (at + length bytes) behind rest)

pub texts_read : (tokens : List TokenValue) (text : List ℕ) → IsTextOf tokens text → tokens_of text ≡ tokens
texts_read tokens text is = read_from tokens 0 text is

-- a blank ends every token
ends_at_blank : (token : TokenValue) (bytes behind : List ℕ) → Spells bytes token → Starts is_blank behind → Ends bytes token behind
ends_at_blank token bytes [] spelt blank = absurd blank
ends_at_blank (Word word) bytes (byte ∷ behind) spelt blank = grind (arith, nat_tests)
ends_at_blank (Quoted name) bytes (byte ∷ behind) spelt blank = tt
ends_at_blank (Number number) bytes (byte ∷ behind) spelt blank = grind (arith, nat_tests)
ends_at_blank (Text text) bytes (byte ∷ behind) spelt blank = grind (arith, nat_tests)
ends_at_blank (Sign s) [] (byte ∷ behind) spelt blank = cc
ends_at_blank (Sign s) (first ∷ []) (byte ∷ behind) spelt blank = grind (arith, nat_tests)
ends_at_blank (Sign s) (first ∷ second ∷ more) (byte ∷ behind) spelt blank = too_long more
  where
    too_long : (l : List ℕ) → is_some (sign_of (first ∷ second ∷ l ++ byte ∷ [])) ≡ false
    too_long [] = refl
    too_long (x ∷ xs) = refl
ends_at_blank Bad bytes (byte ∷ behind) spelt blank = tt

begins_blank : (blanks behind : List ℕ) → AllPass is_blank blanks → 0 < length blanks → Starts is_blank (blanks ++ behind)
begins_blank [] behind all some = absurd (omega arith)
begins_blank (byte ∷ more) behind all some = all 0 0 (omega arith)

spaced_is_text : (front : List ℕ) (pieces : List Spaced) → AllPass is_blank front → All IsSpaced pieces
    → IsTextOf (map (λ piece. piece.token) pieces) (front ++ spaced_text pieces)
spaced_is_text front [] blank all = subst (AllPass is_blank) (sym (append-nil front)) blank
spaced_is_text front (piece ∷ pieces) blank all =
    let own : IsSpaced piece = all 0 piece (omega arith) in (
      piece.blanks ++ spaced_text pieces,
      record {
        front = front;
        bytes = piece.bytes;
        blank = blank;
        spelt = own.spelt;
        ends = ends_at_blank piece.token piece.bytes (piece.blanks ++ spaced_text pieces) own.spelt (begins_blank piece.blanks (spaced_text pieces) own.blank own.some);
        split = ap (λ (l : List ℕ). front ++ l) (append_assoc piece.bytes piece.blanks (spaced_text pieces));
      },
      spaced_is_text piece.blanks pieces own.blank (λ k d before. all (suc k) d (omega arith)),
    )

pub blanks_nothing : (front : List ℕ) (pieces : List Spaced) → AllPass is_blank front → All IsSpaced pieces
    → tokens_of (front ++ spaced_text pieces) ≡ map (λ piece. piece.token) pieces
blanks_nothing front pieces blank all = texts_read (map (λ piece. piece.token) pieces) (front ++ spaced_text pieces) (spaced_is_text front pieces blank all)
