-- The head of fewer bytes than it has, from two numbers of eight bytes that overlap.
use Rattle.std.proofs.Common.{◌≡◌, ℕ, zero, suc, ◌+◌, ◌-◌, ◌*◌, ◌^◌, ◌%◌, ◌<◌, ◌≤◌, List, length, drop, slice_index, refl, sym, ap, subst, ◌∙◌, arith}
use Rattle.std.proofs.Math.Nat.{add-mul, add_assoc, mul_assoc, mul-lt-mul_of_pos_right, one-le-pow}
use Rattle.std.proofs.lemmas.List.{get_or-drop, get_or_past}
use Rattle.std.proofs.lemmas.Nat.{mod-mul-add, pow-add}
use Rattle.byteorder.specs.Endian.{big_from}
use Rattle.byteorder.specs.Numbers.{big_from-lt}
use Rattle.byteorder.proofs.Bytes.{pow256}
use Rattle.shared_tape.specs.Places.{head_of}

-- digits regrouped
regrouped : (s p q r k : ℕ) → s * (p * q) + (r * q + k) ≡ (s * p + r) * q + k
regrouped s p q r k =
    ap (λ n. n + (r * q + k)) (sym (mul_assoc s p q))
    ∙ sym (add_assoc (s * p * q) (r * q) k)
    ∙ ap (λ n. n + k) (sym (add-mul (s * p) r q))

-- the number of some bytes and of those behind them
split : (i a b n k : ℕ) (xs : List ℕ) → n ≡ a + b → k ≡ i + a → big_from i n xs ≡ big_from i a xs * 256 ^ b + big_from k b xs
split i zero b n k xs e f =
    let all : n ≡ b = omega arith in
    let at : i ≡ k = omega arith in
    let none : big_from k b xs ≡ 0 * 256 ^ b + big_from k b xs = omega arith in
    ap (λ m. big_from i m xs) all ∙ ap (λ j. big_from j b xs) at ∙ none
split i (suc a) b zero k xs e f = absurd (omega arith)
split i (suc a) b (suc n) k xs e f =
    let s : ℕ = slice_index xs i in
    let r : ℕ = big_from (suc i) a xs in
    let rest = split (suc i) a b n k xs (omega arith) (omega arith) in
    let count : n ≡ a + b = omega arith in
    let power : 256 ^ n ≡ 256 ^ a * 256 ^ b = ap (λ m. 256 ^ m) count ∙ pow-add 256 a b in
    ap (λ m. s * 256 ^ n + m) rest
    ∙ ap (λ p. s * p + (r * 256 ^ b + big_from k b xs)) power
    ∙ regrouped s (256 ^ a) (256 ^ b) r (big_from k b xs)

-- past the end are zeros
past : (i n : ℕ) (xs : List ℕ) → length xs ≤ i → big_from i n xs ≡ 0
past i zero xs h = refl
past i (suc n) xs h =
    let byte = get_or_past xs i 0 h in
    let rest = past (suc i) n xs (omega arith) in
    ap (λ b. b * 256 ^ n + big_from (suc i) n xs) byte ∙ omega (arith, rest)

-- the bytes behind some
behind : (i n k j : ℕ) (xs : List ℕ) → j ≡ k + i → big_from i n (drop k xs) ≡ big_from j n xs
behind i zero k j xs e = refl
behind i (suc n) k j xs e =
    let byte = get_or-drop k xs i 0 ∙ ap (λ m. slice_index xs m) (sym e) in
    ap (λ b. b * 256 ^ n + big_from (suc i) n (drop k xs)) byte
    ∙ ap (λ r. slice_index xs j * 256 ^ n + r) (behind (suc i) n k (suc j) xs (omega arith))

-- the bytes behind the eighth, highest first, from the last eight: those that are the first eight's too are shifted out
shifted : (count : ℕ) (xs : List ℕ) → ((k : ℕ) → slice_index xs k < 256) → length xs ≡ count → 8 < count → count < 16
    → (big_from 0 8 (drop (count - 8) xs) * 256 ^ (16 - count)) % 256 ^ 8 ≡ big_from 8 8 xs
shifted count xs bytes is more few =
    let high : ℕ = big_from (count - 8) (16 - count) xs in
    let low : ℕ = big_from 8 (count - 8) xs in
    let two : big_from 0 8 (drop (count - 8) xs) ≡ high * 256 ^ (count - 8) + low =
    behind 0 8 (count - 8) (count - 8) xs (omega arith) ∙ split (count - 8) (16 - count) (count - 8) 8 8 xs (omega arith) (omega arith) in
    let eight : 8 ≡ count - 8 + (16 - count) = omega arith in
    let power : 256 ^ (count - 8) * 256 ^ (16 - count) ≡ 256 ^ 8 = sym (pow-add 256 (count - 8) (16 - count)) ∙ ap (λ n. 256 ^ n) (sym eight) in
    let product : (high * 256 ^ (count - 8) + low) * 256 ^ (16 - count) ≡ high * 256 ^ 8 + low * 256 ^ (16 - count) =
    add-mul (high * 256 ^ (count - 8)) low (256 ^ (16 - count))
    ∙ ap (λ n. n + low * 256 ^ (16 - count)) (mul_assoc high (256 ^ (count - 8)) (256 ^ (16 - count)) ∙ ap (λ p. high * p) power) in
    let some : 0 < 256 ^ (16 - count) = let h = one-le-pow (16 - count) 256 (omega arith) in omega arith in
    let below : low * 256 ^ (16 - count) < 256 ^ 8 =
    subst (λ p. low * 256 ^ (16 - count) < p) power (mul-lt-mul_of_pos_right (big_from-lt 8 (count - 8) xs bytes) some) in
    let whole : big_from 8 8 xs ≡ low * 256 ^ (16 - count) =
    split 8 (count - 8) (16 - count) 8 count xs eight (omega arith)
    ∙ omega (arith, past count (16 - count) xs (omega arith)) in
    ap (λ n. n * 256 ^ (16 - count) % 256 ^ 8) two
    ∙ ap (λ n. n % 256 ^ 8) product
    ∙ mod-mul-add high (256 ^ 8) (low * 256 ^ (16 - count)) below
    ∙ sym whole

-- the head, from the first eight bytes and the last eight
pub head-overlapped : (count : ℕ) (xs : List ℕ) → ((k : ℕ) → slice_index xs k < 256) → length xs ≡ count → 8 < count → count < 16
    → big_from 0 8 xs * 2 ^ 64 + (big_from 0 8 (drop (count - 8) xs) * 2 ^ (8 * (16 - count))) % 2 ^ 64 ≡ head_of xs
unfolding head_of
head-overlapped count xs bytes is more few =
    let power = pow256 (16 - count) in
    ap (λ p. big_from 0 8 xs * 2 ^ 64 + (big_from 0 8 (drop (count - 8) xs) * p) % 2 ^ 64) (sym power)
    ∙ ap (λ n. big_from 0 8 xs * 2 ^ 64 + n) (shifted count xs bytes is more few)
    ∙ sym (split 0 8 8 16 8 xs refl refl)
