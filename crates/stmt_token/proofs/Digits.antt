-- How large the number of a few digits is.
use Rattle.std.proofs.Common.{◌≡◌, ℕ, ◌+◌, ◌-◌, ◌*◌, ◌^◌, ◌<◌, ◌≤◌, true, arith, add-one, lit<}
use Rattle.std.proofs.Math.Nat.{pow-le-pow_right, pow-suc}
use Rattle.std.proofs.lemmas.Bool.Decides.{nat_tests}
use Rattle.std.specs.Char.{is_ascii_digit, digit_value}

-- a digit's byte
pub digit_byte : (byte : ℕ) → is_ascii_digit byte ≡ true → (48 ≤ byte) × (byte < 58) × (digit_value byte ≡ byte - 48)
digit_byte byte is = grind (arith, nat_tests)

-- a number of at most 17 digits
pub few_digits : (number digits : ℕ) → number < 10 ^ digits → digits ≤ 17 → number < 10 ^ 17
few_digits number digits below few =
    let bound : 10 ^ digits ≤ 10 ^ 17 = pow-le-pow_right (lit< tt) few in omega arith

-- one digit more
pub more_digits : (number digits digit : ℕ) → number < 10 ^ digits → digit < 10 → number * 10 + digit < 10 ^ (digits + 1)
more_digits number digits digit below small =
    let more : 10 ^ (digits + 1) ≡ 10 ^ digits * 10 = rw add-one (pow-suc 10 digits) in omega arith
