-- How tuples are cut into pages.
use Rattle.std.proofs.Common.{◌≡◌, ℕ, zero, suc, ◌+◌, ◌-◌, ◌*◌, ◌<◌, ◌≤◌, Bool, true, false, List, [], ◌∷◌, length, map, take, drop, get_or, refl, sym, ap, ◌∙◌, arith}
use Rattle.std.specs.Prelude.{All}
use Rattle.std.specs.List.{position_or_len, range_with_len}
use Rattle.std.proofs.lemmas.Bool.Decides.{nat_tests}
use Rattle.std.proofs.lemmas.List.{length-drop, length-take-le}
use Rattle.std.proofs.Math.Nat.{suc-mul}
use Rattle.opclass.specs.declared.types.ColType.{ColType}
use Rattle.brin_summary.specs.Answer.{tuple_size}
use Rattle.brin_summary.specs.Summary.{RangeSummary}
use Rattle.brin_summary.specs.Tuple.{range_tuple}
use Rattle.brin_summary.proofs.Tuples.{tuple_size-anywhere}
use Rattle.std.proofs.lemmas.List.Sums.{sum_by_more, sum_by-cons}
use Rattle.brin_summary.specs.File.{breaks, counts_within, page_count, page_counts, taken, tuples_from}

-- the first place at which a test holds
pub first-at : (p : ℕ → Bool) (base n k : ℕ) → k ≤ n → ((j : ℕ) → j < k → p (base + j) ≡ false) → (k < n → p (base + k) ≡ true)
    → position_or_len p (range_with_len base n) ≡ k
first-at p base zero zero inside none here = refl
first-at p base zero (suc k) inside none here = absurd (omega arith)
first-at p base (suc n) zero inside none here =
    let yes : p base ≡ true = ap p (let e : base ≡ base + 0 = omega arith in e) ∙ here (omega arith) in
    rw yes refl
first-at p base (suc n) (suc k) inside none here =
    let no : p base ≡ false = ap p (let e : base ≡ base + 0 = omega arith in e) ∙ none 0 (omega arith) in
    let rest = first-at p (base + 1) n k (omega arith)
    (λ j below. ap p (let e : base + 1 + j ≡ base + suc j = omega arith in e) ∙ none (suc j) (omega arith))
    (λ below. ap p (let e : base + 1 + k ≡ base + suc k = omega arith in e) ∙ here (omega arith)) in
    let step : 1 + position_or_len p (range_with_len (base + 1) n) ≡ suc k = omega arith in
    rw no step

pub taken-more : (sizes : List ℕ) (at : ℕ) → at < length sizes → taken (take (at + 1) sizes) ≡ taken (take at sizes) + (get_or sizes at 0 + 4)
taken-more sizes at inside = sum_by_more (λ (size : ℕ). size + 4) sizes at 0 inside

-- each tuple takes a line pointer
pub taken-few : (sizes : List ℕ) → 4 * length sizes ≤ taken sizes
taken-few [] = omega arith
taken-few (size ∷ sizes) =
    let rest = taken-few sizes in
    let parts = sum_by-cons (λ (s : ℕ). s + 4) size sizes in
    omega arith

-- what is kept of the tuples in front
pub record IsFront (sizes : List ℕ) (count so_far : ℕ) : Type 0 where
  pub sum : so_far ≡ taken (take count sizes)
  pub fits : so_far ≤ 8160
  pub none : (j : ℕ) → j < count → breaks sizes j ≡ false

pub no-front : (sizes : List ℕ) → IsFront sizes 0 0
no-front sizes = record { sum = refl; fits = omega arith; none = λ j below. absurd (omega arith) }

pub front-few : (sizes : List ℕ) (count so_far : ℕ) → count ≤ length sizes → IsFront sizes count so_far → count ≤ 2040
front-few sizes count so_far inside front =
    let few = taken-few (take count sizes) in
    let long = length-take-le count sizes inside in
    let sum = front.sum in
    let fits = front.fits in
    omega arith

-- the next one has no room
pub broken : (sizes : List ℕ) (count so_far : ℕ) → count < length sizes → IsFront sizes count so_far → 8160 < so_far + (get_or sizes count 0 + 4)
    → breaks sizes count ≡ true
broken sizes count so_far inside front over =
    let next = taken-more sizes count inside in
    let sum = front.sum in
    let step : suc count ≡ count + 1 = omega arith in
    let more : taken (take (suc count) sizes) ≡ so_far + (get_or sizes count 0 + 4) = ap (λ (n : ℕ). taken (take n sizes)) step ∙ omega arith in
    rw more (grind (arith, nat_tests))

-- the tuples in front of the first that breaks the page are those that it takes
pub counted : (sizes : List ℕ) (count : ℕ) → 0 < count → count ≤ length sizes → ((j : ℕ) → j < count → breaks sizes j ≡ false)
    → (count < length sizes → breaks sizes count ≡ true) → count ≡ page_count sizes
counted sizes zero some inside none here = absurd (omega arith)
counted sizes (suc count) some inside none here =
    ap suc (sym (first-at (breaks sizes) 1 (length sizes - 1) count (omega arith)
    (λ j below. none (1 + j) (omega arith))
    (λ below. ap (breaks sizes) (let e : 1 + count ≡ suc count = omega arith in e) ∙ here (omega arith))))

-- where the next one has no room, those in front are the page's
pub broken-counted : (sizes : List ℕ) (count so_far : ℕ) → count < length sizes → IsFront sizes count so_far → All (λ size. size ≤ 8152) sizes
    → 8160 < so_far + (get_or sizes count 0 + 4) → count ≡ page_count sizes
broken-counted sizes zero so_far inside front fit over =
    let small = fit 0 0 inside in
    let sum = front.sum in
    absurd (omega arith)
broken-counted sizes (suc count) so_far inside front fit over =
    counted sizes (suc count) (omega arith) (omega arith) front.none (λ below. broken sizes (suc count) so_far inside front over)

-- where all have room, all are the page's
pub whole-counted : (sizes : List ℕ) (count so_far : ℕ) → 0 < length sizes → count ≡ length sizes → IsFront sizes count so_far
    → length sizes ≡ page_count sizes
whole-counted sizes count so_far some all front =
    sym all ∙ counted sizes count (omega arith) (omega arith) front.none (λ below. absurd (omega arith))

-- ---- page after page

-- a bound that is large enough doesn't matter
counts-bound : (a b : ℕ) (sizes : List ℕ) → length sizes ≤ a → length sizes ≤ b → counts_within a sizes ≡ counts_within b sizes
counts-bound zero zero sizes in_a in_b = refl
counts-bound zero (suc b) [] in_a in_b = refl
counts-bound zero (suc b) (size ∷ sizes) in_a in_b = absurd (omega arith)
counts-bound (suc a) zero [] in_a in_b = refl
counts-bound (suc a) zero (size ∷ sizes) in_a in_b = absurd (omega arith)
counts-bound (suc a) (suc b) [] in_a in_b = refl
counts-bound (suc a) (suc b) (size ∷ sizes) in_a in_b =
    let left = length-drop (page_count (size ∷ sizes)) (size ∷ sizes) in
    ap (λ l. page_count (size ∷ sizes) ∷ l) (counts-bound a b (drop (page_count (size ∷ sizes)) (size ∷ sizes)) (omega arith) (omega arith))

-- the first page, and those of the tuples behind it
pub counts-step : (sizes : List ℕ) → 0 < length sizes → page_counts sizes ≡ page_count sizes ∷ page_counts (drop (page_count sizes) sizes)
unfolding page_counts
counts-step [] some = absurd (omega arith)
counts-step (size ∷ sizes) some =
    let rest = drop (page_count (size ∷ sizes)) (size ∷ sizes) in
    let left = length-drop (page_count (size ∷ sizes)) (size ∷ sizes) in
    ap (λ l. page_count (size ∷ sizes) ∷ l) (counts-bound (length sizes) (length rest) rest (omega arith) (omega arith))

pub counts-none : (sizes : List ℕ) → length sizes ≡ 0 → page_counts sizes ≡ []
unfolding page_counts
counts-none [] none = refl
counts-none (size ∷ sizes) some = absurd (omega arith)

-- ---- the tuples of ranges

module _ (kinds : List ColType) (pages_per_range : ℕ) where
  pub length-tuples : (first : ℕ) (ranges : List RangeSummary) → length (tuples_from kinds pages_per_range first ranges) ≡ length ranges
  length-tuples first [] = refl
  length-tuples first (range ∷ ranges) = ap suc (length-tuples (first + pages_per_range) ranges)

  pub sizes-of-tuples : (first : ℕ) (ranges : List RangeSummary)
      → map length (tuples_from kinds pages_per_range first ranges) ≡ map (tuple_size kinds) ranges
  sizes-of-tuples first [] = refl
  sizes-of-tuples first (range ∷ ranges) = rw (tuple_size-anywhere kinds first range, sizes-of-tuples (first + pages_per_range) ranges) refl

  pub take-tuples : (first count : ℕ) (ranges : List RangeSummary)
      → take count (tuples_from kinds pages_per_range first ranges) ≡ tuples_from kinds pages_per_range first (take count ranges)
  take-tuples first zero ranges = refl
  take-tuples first (suc count) [] = refl
  take-tuples first (suc count) (range ∷ ranges) = ap (λ l. range_tuple kinds first range ∷ l) (take-tuples (first + pages_per_range) count ranges)

  pub drop-tuples : (first count : ℕ) (ranges : List RangeSummary)
      → drop count (tuples_from kinds pages_per_range first ranges) ≡ tuples_from kinds pages_per_range (first + count * pages_per_range) (drop count ranges)
  drop-tuples first zero ranges = ap (λ (n : ℕ). tuples_from kinds pages_per_range n ranges) (let e : first ≡ first + 0 * pages_per_range = omega arith in e)
  drop-tuples first (suc count) [] = refl
  drop-tuples first (suc count) (range ∷ ranges) =
      let more = suc-mul count pages_per_range in
      drop-tuples (first + pages_per_range) count ranges
      ∙ ap (λ (n : ℕ). tuples_from kinds pages_per_range n (drop count ranges))
      (let e : first + pages_per_range + count * pages_per_range ≡ first + suc count * pages_per_range = omega arith in e)

  pub tuple-at : (first at : ℕ) (ranges : List RangeSummary) (d : RangeSummary) → at < length ranges
      → get_or (tuples_from kinds pages_per_range first ranges) at [] ≡ range_tuple kinds (first + at * pages_per_range) (get_or ranges at d)
  tuple-at first at [] d inside = absurd (omega arith)
  tuple-at first zero (range ∷ ranges) d inside =
      ap (λ (n : ℕ). range_tuple kinds n range) (let e : first ≡ first + 0 * pages_per_range = omega arith in e)
  tuple-at first (suc at) (range ∷ ranges) d inside =
      let more = suc-mul at pages_per_range in
      tuple-at (first + pages_per_range) at ranges d (omega arith)
      ∙ ap (λ (n : ℕ). range_tuple kinds n (get_or ranges at d))
      (let e : first + pages_per_range + at * pages_per_range ≡ first + suc at * pages_per_range = omega arith in e)
