-- Tuples filled up with zeros.
use Rattle.std.proofs.Common.{◌≡◌, ℕ, ◌+◌, ◌-◌, ◌<◌, ◌≤◌, List, ◌++◌, length, replicate, take, ap, ◌∙◌, arith}
use Rattle.std.proofs.Math.Seq.{take-append-add}
use Rattle.std.proofs.lemmas.List.{take-replicate}
use Rattle.pg_bytes.specs.Places.{zeros}

-- eight zeros behind bytes, cut off at an end that is nearer
pub filled : (bytes : List ℕ) (end : ℕ) → length bytes ≤ end → end < length bytes + 8
    → take end (bytes ++ replicate 8 0) ≡ bytes ++ zeros (end - length bytes)
unfolding zeros
filled bytes end behind near =
    let count : ℕ = end - length bytes in
    let at : end ≡ length bytes + (end - length bytes) = omega arith in
    ap (λ n. take n (bytes ++ replicate 8 0)) at
    ∙ take-append-add bytes (replicate 8 0) (end - length bytes)
    ∙ ap (λ z. bytes ++ z) (take-replicate (end - length bytes) 8 0 (omega arith))
