-- The null bitmap as a number.
use Rattle.std.proofs.Common.{◌≡◌, ℕ, zero, suc, ◌+◌, ◌*◌, ◌^◌, ◌<◌, ◌≤◌, Bool, true, false, if◌then◌else◌, List, [], ◌∷◌, length, drop, slice_index_or, sym, ap, arith, lit<, length-drop}
use Rattle.std.proofs.Math.Nat.{pow-le-pow_right, pow-succ'}
use Rattle.opclass.specs.declared.value.KeyVal.{KeyVal}
use Rattle.tuple_data.specs.Nulls.{is_null, null_bits}

-- a value before others has the lowest bit
pub null_bits-drop : (values : List KeyVal) (at : ℕ) (value : KeyVal) → at < length values → value ≡ slice_index_or values at value
    → null_bits (drop at values) ≡ (if is_null value then 0 else 1) + 2 * null_bits (drop (suc at) values)
null_bits-drop [] at value inside there = absurd (omega arith)
null_bits-drop (first ∷ values) zero value inside there = ap (λ v. (if is_null v then 0 else 1) + 2 * null_bits values) (sym there)
null_bits-drop (first ∷ values) (suc at) value inside there = null_bits-drop values at value (omega arith) there

pub bit-most : (b : Bool) → (if b then 0 else 1) ≤ 1
bit-most true = omega arith
bit-most false = omega arith

pub null_bits-below : (values : List KeyVal) → null_bits values < 2 ^ length values
null_bits-below [] = omega arith
null_bits-below (value ∷ values) =
    let more = null_bits-below values in
    let digit = bit-most (is_null value) in
    let double = pow-succ' 2 (length values) in
    omega arith

-- one bit more still fits into four bytes
pub null_bits-room : (values : List KeyVal) (at : ℕ) → 0 < at → at ≤ length values → length values ≤ 32 → 2 * null_bits (drop at values) + 1 < 2 ^ 32
null_bits-room values at some inside few =
    let left = length-drop at values in
    let below = null_bits-below (drop at values) in
    let few_left : length (drop at values) ≤ 31 = omega arith in
    let most : 2 ^ length (drop at values) ≤ 2 ^ 31 = pow-le-pow_right (lit< tt) few_left in
    omega arith
