-- The number that bytes are.
use Rattle.std.proofs.Common.{◌≡◌, ◌≢◌, ◌⊎◌, ℕ, zero, suc, ◌-◌, ◌%◌, ◌^◌, ◌<◌, ◌≤◌, ℤ, pos, negsuc, ◌-ℤ◌, nat_lt, true, false, Option, Some, None, MatchOption, List, [], ◌∷◌, length, slice_index, refl, sym, ap, subst, ◌∙◌, inl, inr, arith}
use Rattle.std.specs.Prelude.{All}
use Rattle.std.proofs.lemmas.Bool.{cases_lt}
use Rattle.std.proofs.lemmas.Bool.Decides.{nat_tests}
use Rattle.std.proofs.lemmas.Int.{ints}
use Rattle.std.proofs.lemmas.List.Elements.{All-cons, All-head, All-nil, All-tail}
use Rattle.std.proofs.Math.Nat.{mod-lt}
use Rattle.std.specs.Int.{w64, byte_at, bytes_low_first, cast_unsigned}
use Rattle.byteorder.specs.Endian.{little_from, little_number, twos_complement}
use Rattle.byteorder.specs.Numbers.{little_from-cons, little_from-lt}
use Rattle.pg_bytes.specs.Numbers.{number_bytes}
use Rattle.pg_bytes.proofs.Writes.{length-number_bytes}
use Rattle.opclass.proofs.Pieces.{AreBytes-from_all}
use Rattle.opclass.specs.declared.types.Form.{Form}
use Rattle.opclass.specs.declared.types.Form.TheVariants.{Truth, Signed, Unsigned}
use Rattle.opclass.specs.declared.types.Width.TheVariants.{Fixed}
use Rattle.opclass.specs.Values.{IsNumberOf}
use Rattle.tuple_data.specs.Reading.{IsFit}
use Rattle.tuple_data.proofs.OneNumber.{number_back}

abbrev AreBytes : List ℕ → Type 0
AreBytes bytes = All (λ byte. byte < 256) bytes

-- bytes are those of the number that they are
little_once : (xs ys : List ℕ) → AreBytes xs → AreBytes ys → length xs ≡ length ys
    → little_from 0 (length xs) xs ≡ little_from 0 (length xs) ys → xs ≡ ys
little_once [] [] are are' same e = refl
little_once [] (y ∷ ys) are are' same e = absurd (omega arith)
little_once (x ∷ xs) [] are are' same e = absurd (omega arith)
little_once (x ∷ xs) (y ∷ ys) are are' same e =
    let here = All-head (λ byte. byte < 256) x xs are in
    let there = All-head (λ byte. byte < 256) y ys are' in
    let moved = little_from-cons 0 (length xs) x xs in
    let moved' = little_from-cons 0 (length xs) y ys in
    let first : x ≡ y = omega arith in
    let rest : little_from 0 (length xs) xs ≡ little_from 0 (length xs) ys = omega arith in
    ap (λ (z : ℕ). z ∷ xs) first
    ∙ ap (λ (zs : List ℕ). y ∷ zs)
    (little_once xs ys (All-tail (λ byte. byte < 256) x xs are) (All-tail (λ byte. byte < 256) y ys are') (omega arith) rest)

byte_below : (i x : ℕ) → byte_at i x < 256
byte_below zero x = omega arith
byte_below (suc i) x = mod-lt _ (omega arith)

low_are_bytes : (i width x : ℕ) → AreBytes (bytes_low_first i width x)
low_are_bytes i zero x = All-nil (λ byte. byte < 256)
low_are_bytes i (suc width) x = All-cons (λ byte. byte < 256) _ _ (byte_below i x) (low_are_bytes (suc i) width x)

pub are_number_bytes : (width x : ℕ) → AreBytes (number_bytes width x)
unfolding number_bytes
are_number_bytes width x = low_are_bytes 0 width x

pub bytes_back : (width x : ℕ) (bytes : List ℕ) → AreBytes bytes → length bytes ≡ width → little_number width bytes ≡ x % 256 ^ width
    → bytes ≡ number_bytes width x
bytes_back width x bytes are long low =
    let many = length-number_bytes width x in
    little_once bytes (number_bytes width x) are (are_number_bytes width x) (long ∙ sym many)
    (ap (λ (n : ℕ). little_from 0 n bytes) long ∙ low ∙ sym (number_back width x) ∙ ap (λ (n : ℕ). little_from 0 n (number_bytes width x)) (sym long))

-- a number of two, four or eight bytes in two's complement
record IsRead (width x : ℕ) : Type 0 where
  pub typed : IsNumberOf Signed (Fixed width) (twos_complement width x)
  pub low : cast_unsigned w64 (twos_complement width x) % 256 ^ width ≡ x

negative : (x whole : ℕ) → x < whole → pos x -ℤ pos whole ≡ negsuc (whole - 1 - x)
negative x whole below = omega (arith, ints)

read2 : (x : ℕ) → x < 256 ^ 2 → IsRead 2 x
read2 x fits = elim (cases_lt x (2 ^ 15)) [
  | inl low ↦
      let test : nat_lt x (2 ^ 15) ≡ true = grind (arith, nat_tests) in
      record { typed = rw test (omega (arith, ints), omega (arith, ints)); low = rw test (omega arith) }
  | inr high ↦
      let test : nat_lt x (2 ^ 15) ≡ false = grind (arith, nat_tests) in
      let is = negative x (2 ^ 16) (omega arith) in
      record { typed = rw (test, is) (omega (arith, ints), omega (arith, ints)); low = rw (test, is) (omega arith) }
]

read4 : (x : ℕ) → x < 256 ^ 4 → IsRead 4 x
read4 x fits = elim (cases_lt x (2 ^ 31)) [
  | inl low ↦
      let test : nat_lt x (2 ^ 31) ≡ true = grind (arith, nat_tests) in
      record { typed = rw test (omega (arith, ints), omega (arith, ints)); low = rw test (omega arith) }
  | inr high ↦
      let test : nat_lt x (2 ^ 31) ≡ false = grind (arith, nat_tests) in
      let is = negative x (2 ^ 32) (omega arith) in
      record { typed = rw (test, is) (omega (arith, ints), omega (arith, ints)); low = rw (test, is) (omega arith) }
]

read8 : (x : ℕ) → x < 256 ^ 8 → IsRead 8 x
read8 x fits = elim (cases_lt x (2 ^ 63)) [
  | inl low ↦
      let test : nat_lt x (2 ^ 63) ≡ true = grind (arith, nat_tests) in
      record { typed = rw test (omega (arith, ints), omega (arith, ints)); low = rw test (omega arith) }
  | inr high ↦
      let test : nat_lt x (2 ^ 63) ≡ false = grind (arith, nat_tests) in
      let is = negative x (2 ^ 64) (omega arith) in
      record { typed = rw (test, is) (omega (arith, ints), omega (arith, ints)); low = rw (test, is) (omega arith) }
]

-- a number of this form is the bytes
abbrev pub IsNumberIn : Form → List ℕ → ℤ → Type 0
IsNumberIn form bytes number =
    IsNumberOf form (Fixed (length bytes)) number × (bytes ≡ number_bytes (length bytes) (cast_unsigned w64 number))

fits_width : (width : ℕ) (bytes : List ℕ) → AreBytes bytes → length bytes ≡ width → little_number (length bytes) bytes < 256 ^ width
fits_width width bytes are long =
    subst (λ (n : ℕ). little_number (length bytes) bytes < 256 ^ n) long (little_from-lt 0 (length bytes) bytes (AreBytes-from_all bytes are))

in_bytes : (form : Form) (width : ℕ) (bytes : List ℕ) (number : ℤ) → AreBytes bytes → length bytes ≡ width
    → IsNumberOf form (Fixed width) number → cast_unsigned w64 number % 256 ^ width ≡ little_number (length bytes) bytes → IsNumberIn form bytes number
in_bytes form width bytes number are long typed low = (
  subst (λ (w : ℕ). IsNumberOf form (Fixed w) number) (sym long) typed,
  bytes_back (length bytes) (cast_unsigned w64 number) bytes are refl
      (sym low ∙ ap (λ (w : ℕ). cast_unsigned w64 number % 256 ^ w) (sym long)),
)

signed_in : (width : ℕ) (bytes : List ℕ) → AreBytes bytes → length bytes ≡ width → IsRead width (little_number (length bytes) bytes)
    → IsNumberIn Signed bytes (twos_complement (length bytes) (little_number (length bytes) bytes))
signed_in width bytes are long read =
    let x : ℕ = little_number (length bytes) bytes in
    subst (λ (w : ℕ). IsNumberIn Signed bytes (twos_complement w x)) (sym long)
    (in_bytes Signed width bytes (twos_complement width x) are long read.typed read.low)

pub signed_read : (bytes : List ℕ) (number : ℤ) → AreBytes bytes → IsFit Signed (Fixed (length bytes))
    → number ≡ twos_complement (length bytes) (little_number (length bytes) bytes) → IsNumberIn Signed bytes number
signed_read bytes number are fit is =
    subst (IsNumberIn Signed bytes) (sym is)
    (elim fit [
      | inl two ↦ signed_in 2 bytes are two (read2 _ (fits_width 2 bytes are two))
      | inr more ↦ elim more [
        | inl four ↦ signed_in 4 bytes are four (read4 _ (fits_width 4 bytes are four))
        | inr eight ↦ signed_in 8 bytes are eight (read8 _ (fits_width 8 bytes are eight))
      ]
    ])

pub unsigned_read : (bytes : List ℕ) (number : ℤ) → AreBytes bytes → IsFit Unsigned (Fixed (length bytes))
    → number ≡ pos (little_number 4 bytes) → IsNumberIn Unsigned bytes number
unsigned_read bytes number are fit is =
    let x : ℕ = little_number (length bytes) bytes in
    let below : x < 256 ^ 4 = fits_width 4 bytes are fit in
    let same : number ≡ pos x = is ∙ ap (λ (w : ℕ). pos (little_number w bytes)) (sym fit) in
    subst (IsNumberIn Unsigned bytes) (sym same) (in_bytes Unsigned 4 bytes (pos x) are fit (omega (arith, ints), omega (arith, ints)) (omega arith))

pub truth_read : (bytes : List ℕ) (number : ℤ) → AreBytes bytes → IsFit Truth (Fixed (length bytes)) → slice_index bytes 0 ≤ 1
    → number ≡ pos (slice_index bytes 0) → IsNumberIn Truth bytes number
truth_read bytes number are fit below is =
    let x : ℕ = slice_index bytes 0 in
    let low : little_number (length bytes) bytes ≡ x = ap (λ (w : ℕ). little_number w bytes) fit ∙ (omega arith) in
    let typed : IsNumberOf Truth (Fixed 1) (pos x) = zero_or_one x below in
    subst (IsNumberIn Truth bytes) (sym is) (in_bytes Truth 1 bytes (pos x) are fit typed (omega arith))
  where
    zero_or_one : (x : ℕ) → x ≤ 1 → (pos x ≡ pos 0) ⊎ (pos x ≡ pos 1)
    zero_or_one zero below = inl refl
    zero_or_one (suc x) below = let none : x ≡ 0 = omega arith in inr (ap (λ (n : ℕ). pos (suc n)) none)

first : (x : ℕ) → slice_index (number_bytes 1 x) 0 ≡ x % 256
unfolding number_bytes
first x = refl

-- a byte above 1 is no truth value
pub no_truth : (bytes : List ℕ) (number : ℤ) → IsFit Truth (Fixed (length bytes)) → 2 ≤ slice_index bytes 0
    → IsNumberIn Truth bytes number → ⊥
no_truth bytes number fit above is =
    let low : slice_index bytes 0 ≡ cast_unsigned w64 number % 256 =
    ap (λ (b : List ℕ). slice_index b 0) (is.1 ∙ ap (λ (w : ℕ). number_bytes w (cast_unsigned w64 number)) fit) ∙ first (cast_unsigned w64 number) in
    elim is.0 [
      | inl zero_is ↦ let e : cast_unsigned w64 number % 256 ≡ 0 = ap (λ (n : ℤ). cast_unsigned w64 n % 256) zero_is in absurd (omega arith)
      | inr one_is ↦ let e : cast_unsigned w64 number % 256 ≡ 1 = ap (λ (n : ℤ). cast_unsigned w64 n % 256) one_is in absurd (omega arith)
    ]

pub are_bytes : (bytes : List ℕ) → ((i : ℕ) → slice_index bytes i < 256) → All (λ byte. byte < 256) bytes
are_bytes [] each = All-nil (λ byte. byte < 256)
are_bytes (byte ∷ bytes) each = All-cons (λ b. b < 256) byte bytes (each 0) (are_bytes bytes (λ i. each (suc i)))

-- no number of this form is the bytes
abbrev pub IsNotIn : Form → List ℕ → ℤ → Type 0
IsNotIn form bytes number = IsNumberOf form (Fixed (length bytes)) number → bytes ≢ number_bytes (length bytes) (cast_unsigned w64 number)

pub truth_answer : (bytes : List ℕ) (result : Option ℤ) → AreBytes bytes → IsFit Truth (Fixed (length bytes))
    → MatchOption result (2 ≤ slice_index bytes 0) (λ number. (slice_index bytes 0 ≤ 1) × (number ≡ pos (slice_index bytes 0)))
    → MatchOption result ((number : ℤ) → IsNotIn Truth bytes number) (IsNumberIn Truth bytes)
truth_answer bytes None are fit above = λ number typed whole. no_truth bytes number fit above (typed, whole)
truth_answer bytes (Some number) are fit is = truth_read bytes number are fit is.0 is.1
