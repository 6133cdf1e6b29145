-- What stands in front of bytes stays there while more is put behind.
use Rattle.std.proofs.Common.{◌≡◌, ◌≤◌, List, [], ◌∷◌, ◌++◌, ℕ, suc, length, take, refl, sym, ap, subst, ◌∙◌, arith, Result, Ok, Err, if◌then◌else◌}
use Rattle.std.specs.Prelude.{OnErr}
use Rattle.std.specs.Result.{is_ok}
use Rattle.opclass.specs.Pass.{IsInFront}

-- bytes stand in front of what they are with others behind them
pub in_front_of_more : (front more : List ℕ) → IsInFront front (front ++ more)
in_front_of_more [] more = refl
in_front_of_more (x ∷ front) more = ap (λ (xs : List ℕ). x ∷ xs) (in_front_of_more front more)

-- what stands in front of bytes that stand in front stands there too
pub in_front_still : (front between all : List ℕ) → IsInFront front between → IsInFront between all → IsInFront front all
in_front_still [] between all first second = refl
in_front_still (x ∷ front) [] all first second = absurd (omega (arith, ap length first))
in_front_still (x ∷ front) (y ∷ between) [] first second = absurd (omega (arith, ap length second))
in_front_still (x ∷ front) (y ∷ between) (z ∷ all) first second =
    let head : z ≡ x = cc in
    let one : take (length front) between ≡ front = cc in
    let two : take (length between) all ≡ between = cc in
    λ i. head i ∷ in_front_still front between all one two i

-- the same where the bytes between are those in front with others behind them
pub in_front_after : (front more between all : List ℕ) → between ≡ front ++ more → IsInFront between all → IsInFront front all
in_front_after front more between all is second =
    in_front_still front between all (ap (take (length front)) is ∙ in_front_of_more front more) second

pub in_front_is : (front more all : List ℕ) → all ≡ front ++ more → IsInFront front all
in_front_is front more all is = subst (IsInFront front) (sym is) (in_front_of_more front more)

-- a last call that put more behind, or nothing
pub in_front_unless_ok : {T E : Type 0} (result : Result T E) (front out more all : List ℕ) → IsInFront front out
    → all ≡ (if is_ok result then out ++ more else out) → OnErr result (IsInFront front all)
in_front_unless_ok (Ok x) front out more all before is = tt
in_front_unless_ok (Err e) front out more all before is = subst (IsInFront front) (sym is) before
