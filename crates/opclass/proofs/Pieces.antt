-- Bytes that show their end: how two of them compare doesn't depend on what stands behind them.
use Rattle.std.proofs.Common.{◌≡◌, ℕ, zero, suc, ◌+◌, ◌-◌, ◌*◌, ◌^◌, ◌<◌, ◌≤◌, ℤ, pos, negsuc, true, false, if◌then◌else◌, List, [], ◌∷◌, ◌++◌, length, refl, sym, ap, ◌∙◌, arith, Ordering, Less, Equal, Greater, nat_cmp, int_cmp, Option, Some, None, slice_index, append-nil}
use Rattle.std.specs.Ordering.{ordering_then, ordering_reverse}
use Rattle.std.specs.Option.{option_map}
use Rattle.std.specs.Int.{w64, bytes_high_first}
use Rattle.std.specs.Prelude.{All, FitsSigned}
use Rattle.std.proofs.Math.Nat.{add-mul, mul-le-mul_right}
use Rattle.std.proofs.lemmas.Cmp.{nat_cmp_total, tied_itself, ranked, by_ranked}
use Rattle.std.proofs.lemmas.Bool.Decides.{nat_tests}
use Rattle.byteorder.specs.Endian.{big_from}
use Rattle.byteorder.specs.Numbers.{big_from-cons, big_from-lt, big_number-reads_back, length-bytes_high_first}
use Rattle.opclass.specs.declared.value.KeyVal.{KeyVal}
use Rattle.opclass.specs.declared.value.KeyVal.TheVariants.{Nil, Num, Raw, Items}
use Rattle.opclass.specs.declared.spec.SortPart.{SortPart}
use Rattle.opclass.specs.Order.{bytes_cmp, column_cmp, directed}
use Rattle.opclass.specs.Norm.{lifted, escaped, turned, directed_bytes, piece, IsKeyValue}
use Rattle.opclass.proofs.KeyOrder.{column_cmp_total}

-- the first byte, and what follows where it is level
abbrev pub settled_by : Ordering → Option Ordering → Option Ordering
settled_by Less rest = Some Less
settled_by Equal rest = rest
settled_by Greater rest = Some Greater

-- How two lists compare whatever stands behind them: None where one is a front of the other.
abbrev pub settled : List ℕ → List ℕ → Option Ordering
settled [] [] = Some Equal
settled [] (y ∷ ys) = None
settled (x ∷ xs) [] = None
settled (x ∷ xs) (y ∷ ys) = settled_by (nat_cmp x y) (settled xs ys)

settled_on : (first : Ordering) (rest : Option Ordering) (o tail all : Ordering) → ((p : Ordering) → rest ≡ Some p → all ≡ ordering_then p tail)
    → settled_by first rest ≡ Some o → ordering_then first all ≡ ordering_then o tail
settled_on Less rest o tail all by_rest e = let same : Less ≡ o = cc in ap (λ p. ordering_then p tail) same
settled_on Equal rest o tail all by_rest e = by_rest o e
settled_on Greater rest o tail all by_rest e = let same : Greater ≡ o = cc in ap (λ p. ordering_then p tail) same

-- what stands behind settled lists counts only where they are equal
pub bytes_cmp-settled : (xs ys xt yt : List ℕ) (o : Ordering) → settled xs ys ≡ Some o → bytes_cmp (xs ++ xt) (ys ++ yt) ≡ ordering_then o (bytes_cmp xt yt)
bytes_cmp-settled [] [] xt yt o e = let same : Equal ≡ o = cc in ap (λ p. ordering_then p (bytes_cmp xt yt)) same
bytes_cmp-settled [] (y ∷ ys) xt yt o e = cc
bytes_cmp-settled (x ∷ xs) [] xt yt o e = cc
bytes_cmp-settled (x ∷ xs) (y ∷ ys) xt yt o e =
    settled_on (nat_cmp x y) (settled xs ys) o (bytes_cmp xt yt) (bytes_cmp (xs ++ xt) (ys ++ yt)) (λ p told. bytes_cmp-settled xs ys xt yt p told) e

settled_then : (first : Ordering) (rest : Option Ordering) (o : Ordering) → rest ≡ Some o → settled_by first rest ≡ Some (ordering_then first o)
settled_then Less rest o e = refl
settled_then Equal rest o e = e
settled_then Greater rest o e = refl

-- lists of one length are settled
pub settled-same_length : (xs ys : List ℕ) → length xs ≡ length ys → settled xs ys ≡ Some (bytes_cmp xs ys)
settled-same_length [] [] same = refl
settled-same_length [] (y ∷ ys) same = absurd (omega arith)
settled-same_length (x ∷ xs) [] same = absurd (omega arith)
settled-same_length (x ∷ xs) (y ∷ ys) same =
    settled_then (nat_cmp x y) (settled xs ys) (bytes_cmp xs ys) (settled-same_length xs ys (omega arith))

-- ---- bytes with their end

nat_cmp-less : (x y : ℕ) → x < y → nat_cmp x y ≡ Less
nat_cmp-less x y h = grind (arith, nat_tests)

nat_cmp-same : (x : ℕ) → nat_cmp x x ≡ Equal
nat_cmp-same x = tied_itself nat_cmp_total x

nat_cmp-greater : (x y : ℕ) → y < x → nat_cmp x y ≡ Greater
nat_cmp-greater x y h = grind (arith, nat_tests)

settled-less : (x y : ℕ) (xs ys : List ℕ) → x < y → settled (x ∷ xs) (y ∷ ys) ≡ Some Less
settled-less x y xs ys h = ap (λ o. settled_by o (settled xs ys)) (nat_cmp-less x y h)

settled-greater : (x y : ℕ) (xs ys : List ℕ) → y < x → settled (x ∷ xs) (y ∷ ys) ≡ Some Greater
settled-greater x y xs ys h = ap (λ o. settled_by o (settled xs ys)) (nat_cmp-greater x y h)

then-less : (x y : ℕ) (o : Ordering) → x < y → ordering_then (nat_cmp x y) o ≡ Less
then-less x y o h = ap (λ p. ordering_then p o) (nat_cmp-less x y h)

then-greater : (x y : ℕ) (o : Ordering) → y < x → ordering_then (nat_cmp x y) o ≡ Greater
then-greater x y o h = ap (λ p. ordering_then p o) (nat_cmp-greater x y h)

pub settled-escaped : (xs ys : List ℕ) → settled (escaped xs) (escaped ys) ≡ Some (bytes_cmp xs ys)
settled-escaped [] [] = refl
settled-escaped [] (zero ∷ ys) = refl
settled-escaped [] (suc y ∷ ys) = settled-less 0 (suc y) (0 ∷ []) (escaped ys) (omega arith)
settled-escaped (zero ∷ xs) [] = refl
settled-escaped (suc x ∷ xs) [] = settled-greater (suc x) 0 (escaped xs) (0 ∷ []) (omega arith)
settled-escaped (zero ∷ xs) (zero ∷ ys) = settled-escaped xs ys
settled-escaped (zero ∷ xs) (suc y ∷ ys) =
    settled-less 0 (suc y) (255 ∷ escaped xs) (escaped ys) (omega arith) ∙ ap Some (sym (then-less 0 (suc y) (bytes_cmp xs ys) (omega arith)))
settled-escaped (suc x ∷ xs) (zero ∷ ys) =
    settled-greater (suc x) 0 (escaped xs) (255 ∷ escaped ys) (omega arith) ∙ ap Some (sym (then-greater (suc x) 0 (bytes_cmp xs ys) (omega arith)))
settled-escaped (suc x ∷ xs) (suc y ∷ ys) =
    settled_then (nat_cmp (suc x) (suc y)) (settled (escaped xs) (escaped ys)) (bytes_cmp xs ys) (settled-escaped xs ys)

-- ---- bytes in the other order

-- a list of bytes
abbrev pub AreBytes : List ℕ → Type 0
AreBytes xs = (k : ℕ) → slice_index xs k < 256

nat_cmp-turned : (x y : ℕ) → x < 256 → y < 256 → nat_cmp (255 - x) (255 - y) ≡ ordering_reverse (nat_cmp x y)
nat_cmp-turned x y p q = grind (arith, nat_tests)

reverse_by : (first : Ordering) (rest : Option Ordering) → settled_by (ordering_reverse first) (option_map ordering_reverse rest) ≡ option_map ordering_reverse (settled_by first rest)
reverse_by Less rest = refl
reverse_by Equal rest = refl
reverse_by Greater rest = refl

pub settled-turned : (xs ys : List ℕ) → AreBytes xs → AreBytes ys → settled (turned xs) (turned ys) ≡ option_map ordering_reverse (settled xs ys)
settled-turned [] [] p q = refl
settled-turned [] (y ∷ ys) p q = refl
settled-turned (x ∷ xs) [] p q = refl
settled-turned (x ∷ xs) (y ∷ ys) p q =
    ap (λ o. settled_by o (settled (turned xs) (turned ys))) (nat_cmp-turned x y (p 0) (q 0))
    ∙ ap (settled_by (ordering_reverse (nat_cmp x y))) (settled-turned xs ys (λ k. p (suc k)) (λ k. q (suc k)))
    ∙ reverse_by (nat_cmp x y) (settled xs ys)

-- the bytes of a column compare by its direction
pub settled-directed : (part : SortPart) (xs ys : List ℕ) (o : Ordering) → AreBytes xs → AreBytes ys → settled xs ys ≡ Some o
    → settled (directed_bytes part xs) (directed_bytes part ys) ≡ Some (directed part o)
settled-directed part xs ys o p q e =
    elim part.descending
    as (λ d. settled (if d then turned xs else xs) (if d then turned ys else ys) ≡ Some (if d then ordering_reverse o else o))
    [ true ↦ settled-turned xs ys p q ∙ ap (option_map ordering_reverse) e | false ↦ e ]

-- ---- numbers

nat_cmp-add : (k r s : ℕ) → nat_cmp (k + r) (k + s) ≡ nat_cmp r s
nat_cmp-add k r s = grind (arith, nat_tests)

-- two numbers of two digits to the base m
pub nat_cmp-digits : (m a b r s : ℕ) → r < m → s < m → nat_cmp (a * m + r) (b * m + s) ≡ ordering_then (nat_cmp a b) (nat_cmp r s)
nat_cmp-digits m a b r s p q =
    by_ranked (a < b) (a ≡ b) (b < a) (nat_cmp a b) (ranked a b (nat_cmp a b) refl)
    (λ e less.
    let step : (a + 1) * m ≤ b * m = mul-le-mul_right m (omega arith) in
    let one : (a + 1) * m ≡ a * m + 1 * m = add-mul a 1 m in
    nat_cmp-less (a * m + r) (b * m + s) (omega arith) ∙ sym (ap (λ o. ordering_then o (nat_cmp r s)) e))
    (λ e same. ap (λ x. nat_cmp (x * m + r) (b * m + s)) same ∙ nat_cmp-add (b * m) r s ∙ sym (ap (λ o. ordering_then o (nat_cmp r s)) e))
    (λ e more.
    let step : (b + 1) * m ≤ a * m = mul-le-mul_right m (omega arith) in
    let one : (b + 1) * m ≡ b * m + 1 * m = add-mul b 1 m in
    nat_cmp-greater (a * m + r) (b * m + s) (omega arith) ∙ sym (ap (λ o. ordering_then o (nat_cmp r s)) e))

pub bytes_cmp-big : (n : ℕ) (xs ys : List ℕ) → length xs ≡ n → length ys ≡ n → AreBytes xs → AreBytes ys
    → bytes_cmp xs ys ≡ nat_cmp (big_from 0 n xs) (big_from 0 n ys)
bytes_cmp-big zero [] [] xl yl p q = refl
bytes_cmp-big zero [] (y ∷ ys) xl yl p q = absurd (omega arith)
bytes_cmp-big zero (x ∷ xs) ys xl yl p q = absurd (omega arith)
bytes_cmp-big (suc n) [] ys xl yl p q = absurd (omega arith)
bytes_cmp-big (suc n) (x ∷ xs) [] xl yl p q = absurd (omega arith)
bytes_cmp-big (suc n) (x ∷ xs) (y ∷ ys) xl yl p q =
    let rest = bytes_cmp-big n xs ys (omega arith) (omega arith) (λ k. p (suc k)) (λ k. q (suc k)) in
    let high = big_from-lt 0 n xs (λ k. p (suc k)) in
    let low = big_from-lt 0 n ys (λ k. q (suc k)) in
    ap (ordering_then (nat_cmp x y)) rest
    ∙ sym (nat_cmp-digits (256 ^ n) x y (big_from 0 n xs) (big_from 0 n ys) high low)
    ∙ (λ i. nat_cmp (x * 256 ^ n + sym (big_from-cons 0 n x xs) i) (y * 256 ^ n + sym (big_from-cons 0 n y ys) i))

pub AreBytes-high_first : (n x : ℕ) → AreBytes (bytes_high_first n x)
AreBytes-high_first zero x k = omega arith
AreBytes-high_first (suc zero) x zero = omega arith
AreBytes-high_first (suc (suc n)) x zero = omega arith
AreBytes-high_first (suc n) x (suc k) = AreBytes-high_first n x k

lifted-lt : (z : ℤ) → FitsSigned w64 z → lifted z < 256 ^ 8
lifted-lt (pos n) fits = omega (arith, fits.sfits)
lifted-lt (negsuc n) fits = omega arith

nat_cmp-down : (m a b : ℕ) → a < m → b < m → nat_cmp (m - suc a) (m - suc b) ≡ int_cmp (negsuc a) (negsuc b)
nat_cmp-down m a b p q = grind (arith, nat_tests)

pub reads_back : (x : ℕ) → x < 256 ^ 8 → big_from 0 8 (bytes_high_first 8 x) ≡ x
reads_back x h = ap (big_from 0 8) (sym (append-nil (bytes_high_first 8 x))) ∙ big_number-reads_back 8 x [] h

nat_cmp-lifted : (a b : ℤ) → FitsSigned w64 a → FitsSigned w64 b → nat_cmp (lifted a) (lifted b) ≡ int_cmp a b
nat_cmp-lifted (pos a) (pos b) p q = grind (arith, nat_tests)
nat_cmp-lifted (pos a) (negsuc b) p q = nat_cmp-greater (2 ^ 63 + a) (2 ^ 63 - suc b) (omega (arith, q.sfits))
nat_cmp-lifted (negsuc a) (pos b) p q = nat_cmp-less (2 ^ 63 - suc a) (2 ^ 63 + b) (omega (arith, p.sfits))
nat_cmp-lifted (negsuc a) (negsuc b) p q = nat_cmp-down (2 ^ 63) a b p.sfits q.sfits

settled-number : (a b : ℤ) → FitsSigned w64 a → FitsSigned w64 b
    → settled (bytes_high_first 8 (lifted a)) (bytes_high_first 8 (lifted b)) ≡ Some (int_cmp a b)
settled-number a b p q =
    let xs : List ℕ = bytes_high_first 8 (lifted a) in
    let ys : List ℕ = bytes_high_first 8 (lifted b) in
    let xl : length xs ≡ 8 = length-bytes_high_first 8 (lifted a) in
    let yl : length ys ≡ 8 = length-bytes_high_first 8 (lifted b) in
    settled-same_length xs ys (xl ∙ sym yl)
    ∙ ap Some
    (bytes_cmp-big 8 xs ys xl yl (AreBytes-high_first 8 (lifted a)) (AreBytes-high_first 8 (lifted b))
    ∙ (λ i. nat_cmp (reads_back (lifted a) (lifted-lt a p) i) (reads_back (lifted b) (lifted-lt b q) i))
    ∙ nat_cmp-lifted a b p q)

-- ---- pieces

AreBytes-escaped : (xs : List ℕ) → AreBytes xs → AreBytes (escaped xs)
AreBytes-escaped [] h zero = omega arith
AreBytes-escaped [] h (suc zero) = omega arith
AreBytes-escaped [] h (suc (suc k)) = omega arith
AreBytes-escaped (zero ∷ xs) h zero = omega arith
AreBytes-escaped (zero ∷ xs) h (suc zero) = omega arith
AreBytes-escaped (zero ∷ xs) h (suc (suc k)) = AreBytes-escaped xs (λ j. h (suc j)) k
AreBytes-escaped (suc x ∷ xs) h zero = h 0
AreBytes-escaped (suc x ∷ xs) h (suc k) = AreBytes-escaped xs (λ j. h (suc j)) k

pub AreBytes-from_all : (xs : List ℕ) → All (λ byte. byte < 256) xs → AreBytes xs
AreBytes-from_all [] h k = omega arith
AreBytes-from_all (x ∷ xs) h zero = h 0 0 (omega arith)
AreBytes-from_all (x ∷ xs) h (suc k) = AreBytes-from_all xs (λ j d inside. h (suc j) d (omega arith)) k

-- a piece shows its end, and pieces compare as the values do
pub settled-piece : (part : SortPart) (a b : KeyVal) → IsKeyValue a → IsKeyValue b → settled (piece part a) (piece part b) ≡ Some (column_cmp part a b)
settled-piece part Nil Nil p q =
    ap (λ o. settled_by o (Some Equal)) (nat_cmp-same (if part.nulls_first then 0 else 3)) ∙ ap Some (sym (tied_itself (column_cmp_total part) Nil))
settled-piece part Nil (Num b) p q =
    elim part.nulls_first
    as (λ first. settled ((if first then 0 else 3) ∷ []) (piece part (Num b)) ≡ Some (ordering_then (nat_cmp (if first then 0 else 4) 1) (directed part Equal)))
    [ true ↦ refl | false ↦ refl ]
settled-piece part Nil (Raw b) p q =
    elim part.nulls_first
    as (λ first. settled ((if first then 0 else 3) ∷ []) (piece part (Raw b)) ≡ Some (ordering_then (nat_cmp (if first then 0 else 4) 2) (directed part Equal)))
    [ true ↦ refl | false ↦ refl ]
settled-piece part Nil (Items b) p q = absurd q
settled-piece part (Num a) Nil p q =
    elim part.nulls_first
    as (λ first. settled (piece part (Num a)) ((if first then 0 else 3) ∷ []) ≡ Some (ordering_then (nat_cmp 1 (if first then 0 else 4)) (directed part Equal)))
    [ true ↦ refl | false ↦ refl ]
settled-piece part (Num a) (Num b) p q =
    settled-directed part (bytes_high_first 8 (lifted a)) (bytes_high_first 8 (lifted b)) (int_cmp a b) (AreBytes-high_first 8 (lifted a))
    (AreBytes-high_first 8 (lifted b)) (settled-number a b p q)
settled-piece part (Num a) (Raw b) p q = refl
settled-piece part (Num a) (Items b) p q = absurd q
settled-piece part (Raw a) Nil p q =
    elim part.nulls_first
    as (λ first. settled (piece part (Raw a)) ((if first then 0 else 3) ∷ []) ≡ Some (ordering_then (nat_cmp 2 (if first then 0 else 4)) (directed part Equal)))
    [ true ↦ refl | false ↦ refl ]
settled-piece part (Raw a) (Num b) p q = refl
settled-piece part (Raw a) (Raw b) p q =
    settled-directed part (escaped a) (escaped b) (bytes_cmp a b) (AreBytes-escaped a (AreBytes-from_all a p)) (AreBytes-escaped b (AreBytes-from_all b q))
    (settled-escaped a b)
settled-piece part (Raw a) (Items b) p q = absurd q
settled-piece part (Items a) b p q = absurd p

pub piece_shows_end : (part : SortPart) (a b : KeyVal) (behind_a behind_b : List ℕ) → IsKeyValue a → IsKeyValue b
    → bytes_cmp (piece part a ++ behind_a) (piece part b ++ behind_b) ≡ ordering_then (column_cmp part a b) (bytes_cmp behind_a behind_b)
piece_shows_end part a b behind_a behind_b p q =
    bytes_cmp-settled (piece part a) (piece part b) behind_a behind_b (column_cmp part a b) (settled-piece part a b p q)
