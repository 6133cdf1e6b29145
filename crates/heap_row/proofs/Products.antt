-- The product of an array's dimensions, as far as a word holds it.
use Rattle.std.proofs.Common.{◌≡◌, ℕ, zero, suc, ◌+◌, ◌*◌, ◌^◌, ◌≤◌, ◌<◌, min, true, false, List, Some, None, refl, inl, inr, arith, add-one}
use Rattle.std.proofs.lemmas.Bool.{cases_lt}
use Rattle.std.proofs.lemmas.Bool.Decides.{nat_tests}
use Rattle.heap_row.specs.Array.{dimension, is_negative, product_of}

-- a product that is held as far as a word holds it, times one number more
pub min_times : (most product factor : ℕ) → min (min product most * factor) most ≡ min (product * factor) most
min_times most product zero = grind arith
min_times most product (suc factor) =
    elim (cases_lt most product) [
      | inl large ↦
          let e : min product most ≡ most = omega arith in
          let grows : most ≤ most * suc factor = more most factor in
          let grows' : product ≤ product * suc factor = more product factor in
          rw e (omega arith)
      | inr small ↦ let e : min product most ≡ product = omega arith in rw e
    ]
  where
    more : (n factor : ℕ) → n ≤ n * suc factor
    more n factor = omega arith

-- a dimension more
pub product_step : (content : List ℕ) (n product : ℕ) → product_of content n ≡ Some product → dimension content n < 2 ^ 31
    → product_of content (n + 1) ≡ Some (product * dimension content n)
product_step content n product is below =
    let test : is_negative (dimension content n) ≡ false = grind (arith, nat_tests) in
    rw (add-one, is, test) refl

-- a negative one
pub product_none : (content : List ℕ) (n product : ℕ) → product_of content n ≡ Some product → 2 ^ 31 ≤ dimension content n
    → product_of content (n + 1) ≡ None
product_none content n product is above =
    let test : is_negative (dimension content n) ≡ true = grind (arith, nat_tests) in
    rw (add-one, is, test) refl

pub none_stays : (content : List ℕ) (n more : ℕ) → product_of content n ≡ None → product_of content (more + n) ≡ None
none_stays content n zero none = let e : zero + n ≡ n = omega arith in rw e none
none_stays content n (suc more) none =
    let e : suc more + n ≡ suc (more + n) = omega arith in
    let before = none_stays content n more none in
    rw (e, before) refl
