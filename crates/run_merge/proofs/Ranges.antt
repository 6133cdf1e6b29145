-- Ranges of a list.
use Rattle.std.proofs.Common.{◌≡◌, ℕ, suc, ◌+◌, ◌-◌, ◌<◌, ◌≤◌, List, [], ◌∷◌, length, take, drop, ap, ◌∙◌, arith, slice_index_or}
use Rattle.std.specs.List.{slice_range}
use Rattle.std.proofs.lemmas.List.{drop_more}

-- a range that isn't empty is its first item and the range behind it
pub range_next : {X : Type 0} (xs : List X) (a b : ℕ) (d : X) → a < b → b ≤ length xs
    → slice_range xs a b ≡ slice_index_or xs a d ∷ slice_range xs (a + 1) b
range_next xs a b d low high =
    let e : b - a ≡ suc (b - (a + 1)) = omega arith in
    ap (λ l. take (b - a) l) (drop_more xs a d (omega arith)) ∙ ap (λ (n : ℕ). take n
    (slice_index_or xs a d ∷ drop (a + 1) xs)) e

pub range_end : {X : Type 0} (xs : List X) (a b : ℕ) → b ≤ a → slice_range xs a b ≡ []
range_end xs a b h = let e : b - a ≡ 0 = omega arith in ap (λ (n : ℕ). take n (drop a xs)) e
