-- The bytes of a value, found in the data.
use Rattle.std.proofs.Common.{◌≡◌, Option, Some, None, MatchOption, ℕ, suc, ◌+◌, ◌-◌, ◌*◌, ◌^◌, ◌<◌, List, [], ◌∷◌, ◌++◌, length, refl, sym, ap, ◌∙◌, arith}
use Rattle.std.proofs.lemmas.List.{append_assoc, append_cancel_left}
use Rattle.std.specs.Prelude.{All}
use Rattle.byteorder.specs.Endian.{little_number}
use Rattle.pg_bytes.specs.Numbers.{number_at}
use Rattle.pg_bytes.specs.Places.{zeros}
use Rattle.pg_bytes.proofs.Writes.{zeros-append}
use Rattle.tuple_data.specs.Datum.{long_header}
use Rattle.tuple_data.proofs.OneNumber.{front_once, number_back}
use Rattle.tuple_data.proofs.OneValue.{behind_padding}
use Rattle.tuple_data.proofs.ReadNumber.{bytes_back}

one_zero : zeros 1 ≡ 0 ∷ []
unfolding zeros
one_zero = refl

pub zeros_more : (bytes rest : List ℕ) (n : ℕ) → bytes ≡ zeros n ++ 0 ∷ rest → bytes ≡ zeros (n + 1) ++ rest
zeros_more bytes rest n e =
    e
    ∙ ap (λ (one : List ℕ). zeros n ++ (one ++ rest)) (sym one_zero)
    ∙ sym (append_assoc (zeros n) (zeros 1) rest)
    ∙ ap (λ (z : List ℕ). z ++ rest) (zeros-append n 1)

begins_zero : (k : ℕ) (rest : List ℕ) → zeros (suc k) ++ rest ≡ 0 ∷ (zeros k ++ rest)
unfolding zeros
begins_zero k rest = refl

-- where more zeros stand, the next byte is one
pub next_zero : (bytes rest behind : List ℕ) (n k : ℕ) → n < k → bytes ≡ zeros n ++ rest → bytes ≡ zeros k ++ behind
    → rest ≡ 0 ∷ (zeros (k - n - 1) ++ behind)
next_zero bytes rest behind n k below passed whole =
    let more : n + suc (k - n - 1) ≡ k = omega arith in
    append_cancel_left (zeros n) rest (zeros (suc (k - n - 1)) ++ behind)
    (sym passed
    ∙ whole
    ∙ ap (λ (m : ℕ). zeros m ++ behind) (sym more)
    ∙ ap (λ (z : List ℕ). z ++ behind) (sym (zeros-append n (suc (k - n - 1))))
    ∙ append_assoc (zeros n) (zeros (suc (k - n - 1))) behind)
    ∙ begins_zero (k - n - 1) behind

-- what the word of a long header is, and back
pub long_word : (header : List ℕ) (count : ℕ) → count < 1073741820 → header ≡ long_header count → number_at 4 header 0 ≡ 4 * (4 + count)
unfolding number_at
long_word header count fits is =
    let back = number_back 4 (4 * (4 + count)) in
    ap (λ (h : List ℕ). little_number 4 h) is ∙ back ∙ (omega arith)

pub long_back : (header : List ℕ) (count : ℕ) → All (λ byte. byte < 256) header → length header ≡ 4 → number_at 4 header 0 ≡ 4 * (4 + count)
    → 4 * (4 + count) < 2 ^ 32 → header ≡ long_header count
unfolding number_at
long_back header count are long is fits = bytes_back 4 (4 * (4 + count)) header are long (is ∙ (omega arith))

-- a case of what was read, by the same case of what it was read from
pub cases_of : {A : Type 0} {P P' : Type 0} {Q Q' : A → Type 0} (r : Option A) → MatchOption r P Q → (P → P') → ((a : A) → Q a → Q' a)
    → MatchOption r P' Q'
cases_of None is none some = none is
cases_of (Some a) is none some = some a is

-- a header, and what stands under it
pub long_whole : (pad header own behind : List ℕ) → (pad ++ (header ++ own)) ++ behind ≡ (pad ++ header) ++ (own ++ behind)
long_whole pad header own behind =
    append_assoc pad (header ++ own) behind
    ∙ ap (λ (b : List ℕ). pad ++ b) (append_assoc header own behind)
    ∙ sym (append_assoc pad header (own ++ behind))

-- where a header stands, another behind the same zeros is the same
pub same_header : (pad header other rest behind : List ℕ) → length header ≡ length other → (pad ++ header) ++ rest ≡ (pad ++ other) ++ behind
    → (header ≡ other) × (rest ≡ behind)
same_header pad header other rest behind same e =
    let whole : header ++ rest ≡ other ++ behind = behind_padding pad header other rest behind e in
    let is : header ≡ other = front_once header other rest behind same whole in
    (is, append_cancel_left header rest behind (whole ∙ ap (λ (h : List ℕ). h ++ behind) (sym is)))
