-- A number's decimal digits are what std reads as that number, but for a sign and leading zeros.
use Rattle.std.proofs.Common.{◌≡◌, ℕ, ◌<◌, ◌^◌, List, length, get_or, inl, inr, sym, ◌∙◌, ap, arith}
use Rattle.std.proofs.lemmas.Fmt.{decimal-digits_value, decimal_digit, decimal_injective, decimal_nonempty, digits_decimal, first_decimal, parse-decimal}
use Rattle.std.proofs.lemmas.Bool.{cases_lt}
use Rattle.std.proofs.lemmas.Str.Parse.{IsNumeralModel, not_in_digits, numerals_by_value, parse_plain, tells_digits}
use Rattle.std.specs.Fmt.{decimal}
use Rattle.std.specs.Int.{IsInRange}
use Rattle.std.specs.Prelude.{Result, Ok, Err}
use Rattle.std.specs.Str.Parse.{AllDigits, ParsesUnsigned, digits_value}
use Rattle.pg_index.specs.Calls.Options.{BeginsAsDecimal}

own : IsNumeralModel (AllDigits 10) (digits_value 10)
own = numerals_by_value (AllDigits 10) tells_digits

-- a decimal that begins with a zero is that zero
zero_is_alone : (n : ℕ) → n < 2 ^ 32 → get_or (decimal n) 0 0 ≡ 48 → length (decimal n) ≡ 1
zero_is_alone n small zero = elim (cases_lt 0 n) [
  | inl more ↦ absurd (let first : 48 < get_or (decimal n) 0 0 = first_decimal n more (omega arith) in omega arith)
  | inr none ↦ ap length (decimal_digit n (omega arith))
]

pub decimal_begins : (n : ℕ) → n < 2 ^ 32 → BeginsAsDecimal (decimal n)
decimal_begins n small = record {
  begun = decimal_nonempty n (omega arith);
  unsigned = not_in_digits own (decimal n) 43 (digits_decimal own n (omega arith)) (λ (r : IsInRange 48 57 43). omega (arith, r)) 0 (decimal_nonempty n (omega arith));
  zero_alone = zero_is_alone n small;
}

-- what is read as a number is its decimal
pub read_is_decimal : (E : Type 0) (text : List ℕ) (n : ℕ) → BeginsAsDecimal text → ParsesUnsigned {E = E} 32 10 text (Ok n) → text ≡ decimal n
read_is_decimal E text n begins parsed =
    let plain = parse_plain own {E = E} 32 text (Ok n) parsed begins.unsigned in
    sym (ap decimal plain.1 ∙ decimal-digits_value own text plain.0.0 begins.begun begins.zero_alone (omega (arith, plain.0.2)))

-- a decimal is read
pub decimal_is_read : (E : Type 0) (text : List ℕ) (n : ℕ) (e : E) → n < 2 ^ 32 → text ≡ decimal n → ParsesUnsigned {E = E} 32 10 text (Err e) → ⊥
decimal_is_read E text n e small is parsed =
    let result : Result ℕ E = Err e in
    let read : result ≡ Ok n = parse-decimal {E = E} 32 n text (Err e) small (omega arith) is parsed in
    cc

-- one text is the decimal of one number
pub one_number : (digits : List ℕ) (m n : ℕ) → m < 2 ^ 32 → n < 2 ^ 32 → digits ≡ decimal m → digits ≡ decimal n → m ≡ n
one_number digits m n small less one other = decimal_injective m n (omega arith) (omega arith) (sym one ∙ other)
