-- The head of order bytes may be compared before the bytes.
use Rattle.std.proofs.Common.{◌≡◌, ℕ, zero, suc, ◌+◌, ◌*◌, ◌^◌, ◌<◌, List, [], ◌∷◌, refl, ap, ◌∙◌, arith, Ordering, Less, Equal, Greater, nat_cmp, slice_index, ◌++◌, replicate}
use Rattle.std.specs.Prelude.{All}
use Rattle.std.specs.Ordering.{ordering_then}
use Rattle.std.proofs.lemmas.Cmp.{nat_cmp_total, tied_itself}
use Rattle.std.proofs.lemmas.Bool.Decides.{nat_tests}
use Rattle.byteorder.specs.Endian.{big_from}
use Rattle.byteorder.specs.Numbers.{big_from-cons, big_from-lt}
use Rattle.opclass.specs.Order.{bytes_cmp}
use Rattle.opclass.proofs.Pieces.{AreBytes, AreBytes-from_all, nat_cmp-digits}
use Rattle.shared_tape.specs.Places.{head_of}

big_from-none : (i n : ℕ) → big_from i n [] ≡ 0
big_from-none i zero = refl
big_from-none i (suc n) = omega (arith, big_from-none (suc i) n)

none_below : (n : ℕ) → ordering_then (nat_cmp 0 n) Less ≡ Less
none_below n = grind (arith, nat_tests)

some_above : (n : ℕ) → ordering_then (nat_cmp n 0) Greater ≡ Greater
some_above n = grind (arith, nat_tests)

then_twice : (o p q : Ordering) → ordering_then p q ≡ q → ordering_then (ordering_then o p) (ordering_then o q) ≡ ordering_then o q
then_twice Less p q e = refl
then_twice Equal p q e = e
then_twice Greater p q e = refl

fronts_may_decide : (n : ℕ) (a b : List ℕ) → AreBytes a → AreBytes b
    → ordering_then (nat_cmp (big_from 0 n a) (big_from 0 n b)) (bytes_cmp a b) ≡ bytes_cmp a b
fronts_may_decide zero a b p q = refl
fronts_may_decide (suc n) [] [] p q =
    ap (λ (o : Ordering). ordering_then o Equal) (tied_itself nat_cmp_total (big_from 0 (suc n) []))
fronts_may_decide (suc n) [] (y ∷ ys) p q =
    ap (λ (k : ℕ). ordering_then (nat_cmp k (big_from 0 (suc n) (y ∷ ys))) Less) (big_from-none 0 (suc n))
    ∙ none_below (big_from 0 (suc n) (y ∷ ys))
fronts_may_decide (suc n) (x ∷ xs) [] p q =
    ap (λ (k : ℕ). ordering_then (nat_cmp (big_from 0 (suc n) (x ∷ xs)) k) Greater) (big_from-none 0 (suc n))
    ∙ some_above (big_from 0 (suc n) (x ∷ xs))
fronts_may_decide (suc n) (x ∷ xs) (y ∷ ys) p q =
    let high = big_from-lt 0 n xs (λ k. p (suc k)) in
    let low = big_from-lt 0 n ys (λ k. q (suc k)) in
    ap (λ (o : Ordering). ordering_then o (ordering_then (nat_cmp x y) (bytes_cmp xs ys)))
    ((λ i. nat_cmp (x * 256 ^ n + big_from-cons 0 n x xs i) (y * 256 ^ n + big_from-cons 0 n y ys i))
    ∙ nat_cmp-digits (256 ^ n) x y (big_from 0 n xs) (big_from 0 n ys) high low)
    ∙ then_twice (nat_cmp x y) (nat_cmp (big_from 0 n xs) (big_from 0 n ys)) (bytes_cmp xs ys)
    (fronts_may_decide n xs ys (λ k. p (suc k)) (λ k. q (suc k)))

pub heads_may_decide : (a b : List ℕ) → AreBytes a → AreBytes b → ordering_then (nat_cmp (head_of a) (head_of b)) (bytes_cmp a b) ≡ bytes_cmp a b
unfolding head_of
heads_may_decide a b p q = fronts_may_decide 16 a b p q

pub heads_of_bytes_may_decide : (a b : List ℕ) → All (λ byte. byte < 256) a → All (λ byte. byte < 256) b
    → ordering_then (nat_cmp (head_of a) (head_of b)) (bytes_cmp a b) ≡ bytes_cmp a b
heads_of_bytes_may_decide a b p q = heads_may_decide a b (AreBytes-from_all a p) (AreBytes-from_all b q)

-- zeros behind bytes don't change their head
slice_index-padded : (xs : List ℕ) (m k : ℕ) → slice_index (xs ++ replicate m 0) k ≡ slice_index xs k
slice_index-padded [] zero k = refl
slice_index-padded [] (suc m) zero = refl
slice_index-padded [] (suc m) (suc k) = slice_index-padded [] m k
slice_index-padded (x ∷ xs) m zero = refl
slice_index-padded (x ∷ xs) m (suc k) = slice_index-padded xs m k

big_from-padded : (i n m : ℕ) (xs : List ℕ) → big_from i n (xs ++ replicate m 0) ≡ big_from i n xs
big_from-padded i zero m xs = refl
big_from-padded i (suc n) m xs = λ j. slice_index-padded xs m i j * 256 ^ n + big_from-padded (suc i) n m xs j

pub head_of-padded : (m : ℕ) (xs : List ℕ) → head_of (xs ++ replicate m 0) ≡ head_of xs
unfolding head_of
head_of-padded m xs = big_from-padded 0 16 m xs
