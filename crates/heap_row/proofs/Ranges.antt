-- The numbers of so many bytes are in the range of such a number.
use Rattle.std.proofs.Common.{◌≡◌, ℕ, ◌-◌, ◌*◌, ◌^◌, ◌<◌, ◌≤◌, pos, ◌-ℤ◌, neg_ℤ, ◌≤ℤ◌, ◌<ℤ◌, nat_lt, true, false, if◌then◌else◌, List, sym, subst, ◌∙◌, inl, inr, arith}
use Rattle.std.specs.Prelude.{All}
use Rattle.std.proofs.lemmas.Bool.{cases_lt}
use Rattle.std.proofs.lemmas.Bool.Decides.{nat_tests}
use Rattle.std.proofs.lemmas.Int.{ints}
use Rattle.byteorder.specs.Endian.{little_number, twos_complement}
use Rattle.byteorder.specs.Numbers.{little_from-lt}
use Rattle.byteorder.proofs.Bytes.{pow256, sign_bit}
use Rattle.opclass.proofs.Pieces.{AreBytes-from_all}

-- a number without a sign
pub little_fits : (width : ℕ) (bytes : List ℕ) → All (λ byte. byte < 256) bytes → little_number width bytes < 2 ^ (8 * width)
little_fits width bytes are_bytes =
    subst (λ (whole : ℕ). little_number width bytes < whole) (pow256 width) (little_from-lt 0 width bytes (AreBytes-from_all bytes are_bytes))

-- in two's complement the upper half stands for the negative numbers
halves : (half whole number : ℕ) → whole ≡ 2 * half → number < whole
    → (neg_ℤ (pos half) ≤ℤ (if nat_lt number half then pos number else pos number -ℤ pos whole))
    × ((if nat_lt number half then pos number else pos number -ℤ pos whole) <ℤ pos half)
halves half whole number twice fits =
    elim (cases_lt number half) [
      | inl low ↦ let test : nat_lt number half ≡ true = grind (arith, nat_tests) in rw test (omega (arith, ints), omega (arith, ints))
      | inr high ↦ let test : nat_lt number half ≡ false = grind (arith, nat_tests) in rw test (omega (arith, ints), omega (arith, ints))
    ]

-- a number with a sign
pub signed_fits : (width : ℕ) (bytes : List ℕ) → 1 ≤ width → width ≤ 8 → All (λ byte. byte < 256) bytes
    → (neg_ℤ (pos (2 ^ (8 * width - 1))) ≤ℤ twos_complement width (little_number width bytes))
    × (twos_complement width (little_number width bytes) <ℤ pos (2 ^ (8 * width - 1)))
signed_fits width bytes low high are_bytes =
    halves (2 ^ (8 * width - 1)) (2 ^ (8 * width)) (little_number width bytes) (sym (pow256 width) ∙ (sign_bit width low high).2) (little_fits width bytes are_bytes)
