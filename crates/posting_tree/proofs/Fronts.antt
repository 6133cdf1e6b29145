-- Bytes that stay in front of others.
use Rattle.std.proofs.Common.{◌≡◌, ℕ, ◌≤◌, List, ◌++◌, length, take, refl, sym, ap, ◌∙◌, arith, length-take, ◌<◌, ◌==◌, true, false}
use Rattle.std.proofs.lemmas.Bool.Decides.{nat_tests}
use Rattle.std.proofs.lemmas.List.{take-append-le, take-take, take_all, take_at}
use Rattle.posting_tree.specs.Pass.{IsInFront}

pub front-itself : (front : List ℕ) → IsInFront front front
front-itself front = take_all (length front) front (omega arith)

pub front-short : (front bytes : List ℕ) → IsInFront front bytes → length front ≤ length bytes
front-short front bytes h = let e = ap length h in let l = length-take (length front) bytes in omega arith

pub front-added : (front bytes next more : List ℕ) → IsInFront front bytes → next ≡ bytes ++ more → IsInFront front next
front-added front bytes next more h is =
    ap (take (length front)) is ∙ take-append-le (length front) bytes more (front-short front bytes h) ∙ h

pub front-append : (front more : List ℕ) → IsInFront front (front ++ more)
front-append front more = take_at front more (length front) refl

pub front-of : (front middle bytes : List ℕ) → IsInFront front middle → IsInFront middle bytes → IsInFront front bytes
front-of front middle bytes a b =
    let short : length front ≤ length middle = front-short front middle a in
    sym (take-take (length front) (length middle) bytes short) ∙ ap (take (length front)) b ∙ a

-- bytes that are the same up to a place past the front
pub front-same : (front bytes other : List ℕ) (place : ℕ) → length front ≤ place → take place other ≡ take place bytes → IsInFront front bytes
    → IsInFront front other
front-same front bytes other place inside same h =
    sym (take-take (length front) place other inside) ∙ ap (take (length front)) same ∙ take-take (length front) place bytes inside ∙ h

-- what a test of a length says
pub not-empty : (n : ℕ) → false ≡ (n == 0) → 0 < n
not-empty n e = grind (arith, nat_tests)

pub is-empty : (n : ℕ) → true ≡ (n == 0) → n ≤ 0
is-empty n e = grind (arith, nat_tests)
