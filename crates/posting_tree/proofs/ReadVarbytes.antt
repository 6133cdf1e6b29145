-- The number at the front of bytes is one number.
use Rattle.std.proofs.Common.{◌≡◌, ℕ, zero, suc, ◌+◌, ◌-◌, ◌*◌, ◌/◌, ◌%◌, ◌^◌, ◌<◌, ◌≤◌, ◌⊎◌, inl, inr, List, [], ◌∷◌, ◌++◌, length, take, drop, get_or, refl, sym, ap, subst, ◌∙◌, arith, ltb, Bool, true, false, Option, None, Some, MatchOption}
use Rattle.std.proofs.lemmas.Bool.{ltb-false, ltb-true}
use Rattle.std.proofs.lemmas.List.{take_all}
use Rattle.std.proofs.Math.Nat.{pow-le-pow_right, pow-succ'}
use Rattle.posting_tree.proofs.Varbytes.{groups-last, groups-more, rest-fits}
use Rattle.posting_tree.specs.Pass.{StartsWithDelta, StartsWithGroups}
use Rattle.posting_tree.specs.Segments.{groups, varbyte}

-- a number takes one byte or more
split : (x : ℕ) → (x < 128) ⊎ (128 ≤ x)
split x = by_test (ltb x 128) refl
  where
    by_test : (t : Bool) → ltb x 128 ≡ t → (x < 128) ⊎ (128 ≤ x)
    by_test true e = inl (ltb-true x 128 e)
    by_test false e = inr (ltb-false x 128 e)

-- a number in no bytes
no-bytes : (x : ℕ) → x < 128 ^ 0 → x ≡ 0
no-bytes x h = omega arith

-- the bytes of one number aren't the front of those of another
pub groups-one : (most x y : ℕ) (left right : List ℕ) → x < 128 ^ most → y < 128 ^ most → groups most x ++ left ≡ groups most y ++ right
    → (x ≡ y) × (left ≡ right)
groups-one zero x y left right fx fy same = (no-bytes x fx ∙ sym (no-bytes y fy), same)
groups-one (suc most) x y left right fx fy same = by_sizes (split x) (split y) (λ rest. groups-one most (x / 128) (y / 128) left right (rest-fits most x fx) (rest-fits most y fy) rest)
  where
    by_sizes : (x < 128) ⊎ (128 ≤ x) → (y < 128) ⊎ (128 ≤ y)
        → (groups most (x / 128) ++ left ≡ groups most (y / 128) ++ right → (x / 128 ≡ y / 128) × (left ≡ right)) → (x ≡ y) × (left ≡ right)
    by_sizes (inl sx) (inl sy) deeper =
        let both : x ∷ left ≡ y ∷ right =
        ap (λ (bytes : List ℕ). bytes ++ left) (sym (groups-last most x sx)) ∙ same ∙ ap (λ (bytes : List ℕ). bytes ++ right) (groups-last most y sy) in
        let one : x ≡ y = cc in
        let other : left ≡ right = cc in
        (one, other)
    by_sizes (inl sx) (inr ly) deeper =
        let both : x ∷ left ≡ (y % 128 + 128) ∷ (groups most (y / 128) ++ right) =
        ap (λ (bytes : List ℕ). bytes ++ left) (sym (groups-last most x sx)) ∙ same ∙ ap (λ (bytes : List ℕ). bytes ++ right) (groups-more most y ly) in
        let one : x ≡ y % 128 + 128 = cc in
        absurd (omega arith)
    by_sizes (inr lx) (inl sy) deeper =
        let both : (x % 128 + 128) ∷ (groups most (x / 128) ++ left) ≡ y ∷ right =
        ap (λ (bytes : List ℕ). bytes ++ left) (sym (groups-more most x lx)) ∙ same ∙ ap (λ (bytes : List ℕ). bytes ++ right) (groups-last most y sy) in
        let one : x % 128 + 128 ≡ y = cc in
        absurd (omega arith)
    by_sizes (inr lx) (inr ly) deeper =
        let both : (x % 128 + 128) ∷ (groups most (x / 128) ++ left) ≡ (y % 128 + 128) ∷ (groups most (y / 128) ++ right) =
        ap (λ (bytes : List ℕ). bytes ++ left) (sym (groups-more most x lx)) ∙ same ∙ ap (λ (bytes : List ℕ). bytes ++ right) (groups-more most y ly) in
        let one : x % 128 + 128 ≡ y % 128 + 128 = cc in
        let rest : groups most (x / 128) ++ left ≡ groups most (y / 128) ++ right = cc in
        let below = deeper rest in
        let high = below.0 in
        (omega arith, below.1)

-- bytes that aren't none, as the first one and the others
pub first-byte : (bytes : List ℕ) → 1 ≤ length bytes → bytes ≡ get_or bytes 0 0 ∷ take (length bytes - 1) (drop 1 bytes)
first-byte [] h = absurd (omega arith)
first-byte (byte ∷ bytes) h = ap (λ (xs : List ℕ). byte ∷ xs) (sym (take_all (suc (length bytes) - 1) bytes (omega arith)))

-- ---- the steps of the reading

-- no bytes begin with no number
pub none-empty : (most x : ℕ) (left : List ℕ) → StartsWithGroups most [] x left → ⊥
none-empty zero x left s = let some = s.some in absurd (omega arith)
none-empty (suc most) x left s = by_size (split x)
  where
    by_size : (x < 128) ⊎ (128 ≤ x) → ⊥
    by_size (inl h) = let e : [] ≡ x ∷ left = s.bytes_are ∙ ap (λ (bytes : List ℕ). bytes ++ left) (groups-last most x h) in cc
    by_size (inr h) = let e : [] ≡ (x % 128 + 128) ∷ (groups most (x / 128) ++ left) = s.bytes_are ∙ ap (λ (bytes : List ℕ). bytes ++ left) (groups-more most x h) in cc

-- a byte below 128 is a number
pub last-byte : (most byte : ℕ) (behind : List ℕ) → 0 < most → byte < 128 → StartsWithGroups most (byte ∷ behind) byte behind
last-byte zero byte behind some h = absurd (omega arith)
last-byte (suc most) byte behind some h = record {
  some = some;
  fits = let one = pow-le-pow_right {n = 128} (omega arith) {i = 1} {j = suc most} (omega arith) in omega arith;
  bytes_are = sym (ap (λ (bytes : List ℕ). bytes ++ behind) (groups-last most byte h));
}

-- what stands behind a byte from 128 on
pub rest-of : (most byte x : ℕ) (behind left : List ℕ) → 128 ≤ byte → StartsWithGroups most (byte ∷ behind) x left
    → (128 ≤ x) × StartsWithGroups (most - 1) behind (x / 128) left
rest-of zero byte x behind left h s = let some = s.some in absurd (omega arith)
rest-of (suc most) byte x behind left h s = by_size (split x)
  where
    some-more : (most : ℕ) → 128 ≤ x → x < 128 ^ suc most → 0 < most
    some-more zero large fits = absurd (omega arith)
    some-more (suc most) large fits = omega arith

    by_size : (x < 128) ⊎ (128 ≤ x) → (128 ≤ x) × StartsWithGroups (suc most - 1) behind (x / 128) left
    by_size (inl small) =
        let e : byte ∷ behind ≡ x ∷ left = s.bytes_are ∙ ap (λ (bytes : List ℕ). bytes ++ left) (groups-last most x small) in
        let one : byte ≡ x = cc in
        absurd (omega arith)
    by_size (inr large) =
        let e : byte ∷ behind ≡ (x % 128 + 128) ∷ (groups most (x / 128) ++ left) =
        s.bytes_are ∙ ap (λ (bytes : List ℕ). bytes ++ left) (groups-more most x large) in
        let rest : behind ≡ groups most (x / 128) ++ left = cc in
        let less : suc most - 1 ≡ most = omega arith in (
          large,
          subst (λ (m : ℕ). StartsWithGroups m behind (x / 128) left) (sym less)
              (record { some = some-more most large s.fits; fits = rest-fits most x s.fits; bytes_are = rest }),
        )

-- a byte from 128 on, and a number behind it that isn't zero
pub more-bytes : (most byte high : ℕ) (behind left : List ℕ) → 0 < most → 128 ≤ byte → byte < 256 → 0 < high → StartsWithGroups (most - 1) behind high left
    → StartsWithGroups most (byte ∷ behind) (byte - 128 + high * 128) left
more-bytes zero byte high behind left some large byte_fits high_some s = absurd (omega arith)
more-bytes (suc most) byte high behind left some large byte_fits high_some s =
    let less : suc most - 1 ≡ most = omega arith in
    let t : StartsWithGroups most behind high left = subst (λ (m : ℕ). StartsWithGroups m behind high left) less s in
    let fits = t.fits in
    let x : ℕ = byte - 128 + high * 128 in
    let over : 128 ≤ byte - 128 + high * 128 = omega arith in
    let low : (byte - 128 + high * 128) % 128 + 128 ≡ byte = omega arith in
    let rest : (byte - 128 + high * 128) / 128 ≡ high = omega arith in
    record {
      some = some;
      fits = let e = pow-succ' 128 most in omega arith;
      bytes_are = sym
          (ap (λ (bytes : List ℕ). bytes ++ left) (groups-more most x over)
          ∙ ap (λ (b : ℕ). b ∷ (groups most (x / 128) ++ left)) low
          ∙ ap (λ (h : ℕ). byte ∷ (groups most h ++ left)) rest
          ∙ ap (λ (bytes : List ℕ). byte ∷ bytes) (sym t.bytes_are));
    }

-- a byte from 128 on with zero behind it
pub zero-rest : (most byte high : ℕ) (behind left : List ℕ) → 128 ≤ byte → high ≡ 0 → StartsWithGroups (most - 1) behind high left
    → (x : ℕ) (right : List ℕ) → StartsWithGroups most (byte ∷ behind) x right → ⊥
zero-rest most byte high behind left large none s x right t =
    let rest = rest-of most byte x behind right large t in
    let same : groups (most - 1) (x / 128) ++ right ≡ groups (most - 1) high ++ left = sym rest.1.bytes_are ∙ s.bytes_are in
    let one = groups-one (most - 1) (x / 128) high right left rest.1.fits s.fits same in
    let e = one.0 in
    let over = rest.0 in
    absurd (omega arith)

-- the bound of a number in at most seven bytes
pub seven-groups : (most x : ℕ) → most ≤ 7 → x < 128 ^ most → x < 2 ^ 49
seven-groups most x few fits = let e = pow-le-pow_right {n = 128} (omega arith) {i = most} {j = 7} few in omega arith

-- ---- the same over bytes whose first one was read

pub at-last : (most low : ℕ) (bytes : List ℕ) → 1 ≤ length bytes → 0 < most → low ≡ get_or bytes 0 0 → low < 128
    → StartsWithGroups most bytes low (take (length bytes - 1) (drop 1 bytes))
at-last most low bytes some room is small =
    subst (λ (all : List ℕ). StartsWithGroups most all low (take (length bytes - 1) (drop 1 bytes))) (ap (λ (b : ℕ). b ∷ take (length bytes - 1) (drop 1 bytes)) is ∙ sym (first-byte bytes some))
    (last-byte most low (take (length bytes - 1) (drop 1 bytes)) room small)

pub no-rest : (most low : ℕ) (bytes : List ℕ) → 1 ≤ length bytes → low ≡ get_or bytes 0 0 → 128 ≤ low
    → ((x : ℕ) (left : List ℕ) → StartsWithGroups (most - 1) (take (length bytes - 1) (drop 1 bytes)) x left → ⊥)
    → (x : ℕ) (left : List ℕ) → StartsWithGroups most bytes x left → ⊥
no-rest most low bytes some is large none x left s =
    let t : StartsWithGroups most (get_or bytes 0 0 ∷ take (length bytes - 1) (drop 1 bytes)) x left =
    subst (λ (all : List ℕ). StartsWithGroups most all x left) (first-byte bytes some) s in
    none (x / 128) left (rest-of most (get_or bytes 0 0) x _ left (omega arith) t).1

pub at-more : (most low high : ℕ) (bytes left : List ℕ) → 1 ≤ length bytes → 0 < most → low ≡ get_or bytes 0 0 → 128 ≤ low → low < 256 → 0 < high
    → StartsWithGroups (most - 1) (take (length bytes - 1) (drop 1 bytes)) high left → StartsWithGroups most bytes (low - 128 + high * 128) left
at-more most low high bytes left some room is large fits not_zero s =
    subst (λ (all : List ℕ). StartsWithGroups most all (low - 128 + high * 128) left) (ap (λ (b : ℕ). b ∷ take (length bytes - 1) (drop 1 bytes)) is ∙ sym (first-byte bytes some))
    (more-bytes most low high (take (length bytes - 1) (drop 1 bytes)) left room large fits not_zero s)

pub at-zero : (most low high : ℕ) (bytes left : List ℕ) → 1 ≤ length bytes → low ≡ get_or bytes 0 0 → 128 ≤ low → high ≡ 0
    → StartsWithGroups (most - 1) (take (length bytes - 1) (drop 1 bytes)) high left → (x : ℕ) (right : List ℕ) → StartsWithGroups most bytes x right → ⊥
at-zero most low high bytes left some is large zero_is s x right t =
    zero-rest most (get_or bytes 0 0) high _ left (omega arith) zero_is s x right
    (subst (λ (all : List ℕ). StartsWithGroups most all x right) (first-byte bytes some) t)

-- a delta is a number in at most seven bytes
pub groups-delta : (bytes left : List ℕ) (x : ℕ) → StartsWithGroups 7 bytes x left → StartsWithDelta bytes x left
unfolding varbyte
groups-delta bytes left x s = record { fits = s.fits; bytes_are = s.bytes_are }

pub delta-groups : (bytes left : List ℕ) (x : ℕ) → StartsWithDelta bytes x left → StartsWithGroups 7 bytes x left
unfolding varbyte
delta-groups bytes left x s = record { some = omega arith; fits = s.fits; bytes_are = s.bytes_are }

-- the bytes of one delta aren't the front of those of another
pub varbyte-one : (x y : ℕ) (left right : List ℕ) → x < 2 ^ 49 → y < 2 ^ 49 → varbyte x ++ left ≡ varbyte y ++ right → (x ≡ y) × (left ≡ right)
unfolding varbyte
varbyte-one x y left right fx fy same = groups-one 7 x y left right fx fy same

-- an answer that says less
pub option-weaker : {X : Type 0} {N N' : Type 0} {S S' : X → Type 0} (answer : Option X) → MatchOption answer N S → (N → N') → ((x : X) → S x → S' x)
    → MatchOption answer N' S'
option-weaker None h none some = none h
option-weaker (Some x) h none some = some x h

-- a number takes a byte at least
some-groups : (most x : ℕ) → 0 < length (groups (suc most) x)
some-groups most x = by_size (split x)
  where
    by_size : (x < 128) ⊎ (128 ≤ x) → 0 < length (groups (suc most) x)
    by_size (inl h) = let e = ap length (groups-last most x h) in omega arith
    by_size (inr h) = let e = ap length (groups-more most x h) in omega arith

pub varbyte-some : (x : ℕ) → 0 < length (varbyte x)
unfolding varbyte
varbyte-some x = some-groups 6 x
