-- The first chunk, doubled until it is large enough, is the least power of two that is.
use Rattle.std.proofs.Common.{◌≡◌, ◌⊎◌, inl, inr, ℕ, zero, suc, ◌+◌, ◌*◌, ◌/◌, ◌^◌, ◌<◌, ◌≤◌, Bool, ltb, true, false, sym, refl, ap, subst, ◌∙◌, pow_pos, arith}
use Rattle.std.proofs.Common.{mul_assoc}
use Rattle.std.proofs.Math.Nat.{mul-le-mul_left, pow-succ', pow-le-pow_right}
use Rattle.std.proofs.lemmas.Bool.Decides.{nat_tests}
use Rattle.std.proofs.lemmas.Bool.{cases_lt}
use Rattle.block_claim.specs.Ramp.{doubled_to, chunk_at_start}
use Rattle.block_claim.specs.Laws.{IsFirstChunk, FirstChunkIsAPowerOfTwo}

pow_double : (p k : ℕ) → p * 2 ^ suc k ≡ (p * 2) * 2 ^ k
pow_double p k = ap (λ (m : ℕ). p * m) (pow-succ' 2 k) ∙ sym (mul_assoc p 2 (2 ^ k))

pub doubles : (n k p : ℕ) → p < n → p < 8192 → p * 2 ^ k ≡ 8192 → (l : ℕ) × ((p * 2) * 2 ^ l ≡ 8192) × (doubled_to n l (p * 2) ≡ doubled_to n k p)
doubles n zero p below small is = absurd (omega arith)
doubles n (suc k) p below small is =
    let test : ltb p n ≡ true = grind (arith, nat_tests) in
    let same : p * 2 ≡ p + p = omega arith in
    (k, sym (pow_double p k) ∙ is, rw test (ap (doubled_to n k) same))

pub doubled : (n k p : ℕ) → 1 ≤ p → (n ≤ p) ⊎ (8192 ≤ p) → p * 2 ^ k ≡ 8192 → doubled_to n k p ≡ p
doubled n zero p some large is = refl
doubled n (suc k) p some (inl large) is =
    let test : ltb p n ≡ false = grind (arith, nat_tests) in
    rw test refl
doubled n (suc k) p some (inr large) is =
    let more : 1 ≤ 2 ^ k = pow_pos k in
    let twice : (p * 2) * 1 ≤ (p * 2) * 2 ^ k = mul-le-mul_left (p * 2) more in
    let double = pow_double p k in
    absurd (omega arith)

-- after so many doublings, of which more are left until 13
power_least : (blocks left done : ℕ) → done + left ≡ 13
    → ((k : ℕ) → blocks / 2048 ≤ 2 ^ k → 2 ^ done ≤ 2 ^ k)
    → IsFirstChunk blocks (doubled_to (blocks / 2048) left (2 ^ done))
power_least blocks zero done is least = record {
  exponent = done;
  power = refl;
  most = pow-le-pow_right {n = 2} (omega arith) {i = done} {j = 13} (omega arith);
  enough = (
      let all : 2 ^ 13 ≤ 2 ^ done = pow-le-pow_right {n = 2} (omega arith) {i = 13} {j = done} (omega arith) in
      λ below. absurd (omega arith));
  least = least;
}
power_least blocks (suc left) done is least =
    go (ltb (2 ^ done) (blocks / 2048)) refl (power_least blocks left (suc done) (omega arith))
  where
    larger : ltb (2 ^ done) (blocks / 2048) ≡ true → (k : ℕ) → blocks / 2048 ≤ 2 ^ k → 2 ^ suc done ≤ 2 ^ k
    larger test k enough = elim (cases_lt done k) as (λ _. 2 ^ suc done ≤ 2 ^ k) [
      | inl above ↦ pow-le-pow_right {n = 2} (omega arith) {i = suc done} {j = k} (omega arith)
      | inr within ↦ (
          let most : 2 ^ k ≤ 2 ^ done = pow-le-pow_right {n = 2} (omega arith) {i = k} {j = done} within in
          let below : 2 ^ done < blocks / 2048 = grind (arith, nat_tests) in
          absurd (omega arith))
    ]

    go : (more : Bool) → ltb (2 ^ done) (blocks / 2048) ≡ more
        → (((k : ℕ) → blocks / 2048 ≤ 2 ^ k → 2 ^ suc done ≤ 2 ^ k)
        → IsFirstChunk blocks (doubled_to (blocks / 2048) left (2 ^ suc done)))
        → IsFirstChunk blocks (doubled_to (blocks / 2048) (suc left) (2 ^ done))
    go true test later =
        let twice : 2 ^ suc done ≡ 2 ^ done + 2 ^ done = let p = pow-succ' 2 done in omega arith in
        rw test (subst (λ (p : ℕ). IsFirstChunk blocks (doubled_to (blocks / 2048) left p)) twice (later (larger test)))
    go false test later =
        let small : blocks / 2048 ≤ 2 ^ done = grind (arith, nat_tests) in
        rw test (record {
          exponent = done;
          power = refl;
          most = pow-le-pow_right {n = 2} (omega arith) {i = done} {j = 13} (omega arith);
          enough = λ _. small;
          least = least;
        })

pub first_chunk : FirstChunkIsAPowerOfTwo
unfolding chunk_at_start
first_chunk blocks = power_least blocks 13 0 refl (λ k _. pow_pos k)
