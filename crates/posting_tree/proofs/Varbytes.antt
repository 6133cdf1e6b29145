-- Numbers in bytes of seven bits, low ones first.
use Rattle.std.proofs.Common.{◌≡◌, ℕ, zero, suc, ◌+◌, ◌/◌, ◌%◌, ◌^◌, ◌<◌, ◌≤◌, List, [], ◌∷◌, ◌++◌, length, sym, ap, ◌∙◌, arith, ltb, Bool, true, false, cond}
use Rattle.std.proofs.Math.Nat.{pow-succ'}
use Rattle.std.proofs.lemmas.Bool.Decides.{nat_tests}
use Rattle.std.proofs.lemmas.List.{append_assoc}
use Rattle.posting_tree.specs.Segments.{groups, varbyte}

pub groups-last : (more x : ℕ) → x < 128 → groups (suc more) x ≡ x ∷ []
groups-last more x h = grind (arith, nat_tests)

pub groups-more : (more x : ℕ) → 128 ≤ x → groups (suc more) x ≡ (x % 128 + 128) ∷ groups more (x / 128)
groups-more more x h = grind (arith, nat_tests)

-- a number that takes another byte has room left for what stands for its rest
pub rest-fits : (more x : ℕ) → x < 128 ^ suc more → x / 128 < 128 ^ more
rest-fits more x h = let e = pow-succ' 128 more in omega arith

-- What stands for the rest of a number, in one byte and at most so many more, completes the bytes of the whole number.
pub record Completes (all : List ℕ) (now : List ℕ) (rest : ℕ) : Type 0 where
  pub more : ℕ
  pub fits : rest < 128 ^ suc more
  pub whole : all ≡ now ++ groups (suc more) rest

pub completes-more : (all now next : List ℕ) (rest : ℕ) → Completes all now rest → 128 ≤ rest → next ≡ now ++ (rest % 128 + 128) ∷ []
    → Completes all next (rest / 128)
completes-more all now next rest c h put = by_more c.more c.fits c.whole
  where
    by_more : (more : ℕ) → rest < 128 ^ suc more → all ≡ now ++ groups (suc more) rest → Completes all next (rest / 128)
    by_more zero fits is = absurd (omega arith)
    by_more (suc more) fits is = record {
      more = more;
      fits = rest-fits (suc more) rest fits;
      whole = is ∙ ap (λ (bytes : List ℕ). now ++ bytes) (groups-more (suc more) rest h) ∙ sym (append_assoc now ((rest % 128 + 128) ∷ []) (groups (suc more) (rest / 128)))
          ∙ ap (λ (bytes : List ℕ). bytes ++ groups (suc more) (rest / 128)) (sym put);
    }

pub completes-last : (all now next : List ℕ) (rest : ℕ) → Completes all now rest → rest < 128 → next ≡ now ++ rest ∷ [] → next ≡ all
completes-last all now next rest c h put =
    put ∙ sym (c.whole ∙ ap (λ (bytes : List ℕ). now ++ bytes) (groups-last c.more rest h))

length-groups : (most x : ℕ) → length (groups most x) ≤ most
length-groups zero x = omega arith
length-groups (suc most) x = by_test (ltb x 128) (length-groups most (x / 128))
  where
    by_test : (t : Bool) → length (groups most (x / 128)) ≤ most → length (cond t (x ∷ []) ((x % 128 + 128) ∷ groups most (x / 128))) ≤ suc most
    by_test true h = omega arith
    by_test false h = omega arith

pub length-varbyte : (x : ℕ) → length (varbyte x) ≤ 7
unfolding varbyte
length-varbyte x = length-groups 7 x
