-- The pointers to tuples, page by page.
use Rattle.std.proofs.lemmas.Bool.Decides.{nat_tests}
use Rattle.std.proofs.Common.{◌≡◌, min, nat_le, Bool, true, false, ℕ, zero, suc, ◌+◌, ◌-◌, ◌*◌, ◌<◌, ◌≤◌, List, [], ◌∷◌, ◌++◌, length, take, drop, refl, sym, ap, ◌∙◌, arith, length-append}
use Rattle.std.specs.Prelude.{All}
use Rattle.std.specs.List.{flat_map, range_with_len}
use Rattle.std.proofs.lemmas.List.{append_assoc, append-nil, drop_all, length-drop, length-take, take_all}
use Rattle.std.proofs.lemmas.List.FromFn.{map-range_with_len_more}
use Rattle.std.proofs.lemmas.Grind.{flat_map-append}
use Rattle.std.proofs.lemmas.List.Elements.{All-drop}
use Rattle.pg_bytes.specs.declared.row_ptr.RowPtr.{RowPtr}
use Rattle.brin_summary.specs.File.{page_count, page_counts, pointers_from, pointers_on, pointers_to, revmap_of}
use Rattle.brin_summary.specs.Page.{revmap_page}
use Rattle.brin_summary.proofs.Cutting.{counts-none, counts-step}
use Rattle.brin_summary.proofs.PageWrites.{length-revmap_page}

range-more : (base n : ℕ) → range_with_len base (n + 1) ≡ range_with_len base n ++ (base + n) ∷ []
range-more base zero = ap (λ (k : ℕ). k ∷ []) (let e : base ≡ base + 0 = omega arith in e)
range-more base (suc n) =
    ap (range_with_len base) (let e : suc n + 1 ≡ suc (n + 1) = omega arith in e)
    ∙ ap (λ l. base ∷ l) (range-more (base + 1) n ∙ ap (λ (k : ℕ). range_with_len (base + 1) n ++ k ∷ []) (let e : base + 1 + n ≡ base + suc n = omega arith in e))

-- one pointer more
pub pointers_to-more : (block count : ℕ) → pointers_to block (count + 1) ≡ pointers_to block count ++ (record { block = block; offset = count + 1 }) ∷ []
pointers_to-more block count = map-range_with_len_more (λ offset. record { block = block; offset = offset }) 1 count (count + 1) (omega arith)

-- what is kept of the pointers to the tuples in front
pub record PointsSoFar (first : ℕ) (sizes : List ℕ) (block : ℕ) (left : List ℕ) (pointers : List RowPtr) : Type 0 where
  pub points : pointers ++ pointers_from block (page_counts left) ≡ pointers_from first (page_counts sizes)
  pub blocks : block + length left ≤ first + length sizes
  pub fit : All (λ size. size ≤ 8152) left

pub no-points : (first : ℕ) (sizes : List ℕ) → All (λ size. size ≤ 8152) sizes → PointsSoFar first sizes first sizes []
no-points first sizes fit = record { points = refl; blocks = omega arith; fit = fit }

-- what is left behind a place, as a slice has it
pub tail-is : {X : Type 0} (count : ℕ) (items : List X) → take (length items - count) (drop count items) ≡ drop count items
tail-is count items = take_all (length items - count) (drop count items) (let left = length-drop count items in omega arith)

points-behind : (first : ℕ) (sizes : List ℕ) (block : ℕ) (left : List ℕ) (pointers new : List RowPtr) (count : ℕ)
    → PointsSoFar first sizes block left pointers → 0 < length left → count ≡ page_count left → new ≡ pointers ++ pointers_to block count
    → PointsSoFar first sizes (block + 1) (drop count left) new
points-behind first sizes block left pointers new count so_far some is_count is_new =
    let step : page_counts left ≡ count ∷ page_counts (drop count left) =
    counts-step left some ∙ ap (λ (n : ℕ). n ∷ page_counts (drop n left)) (sym is_count) in
    let rest = length-drop count left in
    let blocks = so_far.blocks in
    let one : 1 ≤ count = omega arith in
    record {
      points = ap (λ l. l ++ pointers_from (block + 1) (page_counts (drop count left))) is_new
          ∙ append_assoc pointers (pointers_to block count) (pointers_from (block + 1) (page_counts (drop count left)))
          ∙ ap (λ l. pointers ++ pointers_from block l) (sym step)
          ∙ so_far.points;
      blocks = omega arith;
      fit = All-drop (λ size. size ≤ 8152) count left so_far.fit;
    }

-- one page more
pub more-points : (first : ℕ) (sizes : List ℕ) (block : ℕ) (left : List ℕ) (pointers new : List RowPtr) (count : ℕ)
    → PointsSoFar first sizes block left pointers → 0 < length left → count ≡ page_count left → new ≡ pointers ++ pointers_to block count
    → PointsSoFar first sizes (block + 1) (take (length left - count) (drop count left)) new
more-points first sizes block left pointers new count so_far some is_count is_new =
    rw (tail-is count left)
    (points-behind first sizes block left pointers new count so_far some is_count is_new)

pub all-points : (first : ℕ) (sizes : List ℕ) (block : ℕ) (left : List ℕ) (pointers : List RowPtr)
    → PointsSoFar first sizes block left pointers → length left ≡ 0 → pointers ≡ pointers_from first (page_counts sizes)
all-points first sizes block left pointers so_far none =
    sym (append-nil pointers) ∙ ap (λ l. pointers ++ pointers_from block l) (sym (counts-none left none)) ∙ so_far.points

-- ---- the pages of the revmap

pub revmap-none : (pointers : List RowPtr) → revmap_of 0 pointers ≡ []
unfolding revmap_of
revmap-none pointers = refl

pub revmap-more : (pages : ℕ) (pointers : List RowPtr) → revmap_of (pages + 1) pointers ≡ revmap_of pages pointers ++ revmap_page (pointers_on pointers pages)
unfolding revmap_of
revmap-more pages pointers =
    ap (flat_map (λ page. revmap_page (pointers_on pointers page))) (range-more 0 pages)
    ∙ flat_map-append (λ page. revmap_page (pointers_on pointers page)) (range_with_len 0 pages) ((0 + pages) ∷ [])
    ∙ ap (λ l. revmap_of pages pointers ++ l)
    (append-nil (revmap_page (pointers_on pointers (0 + pages))) ∙ ap (λ (n : ℕ). revmap_page (pointers_on pointers n)) (let e : 0 + pages ≡ pages = omega arith in e))

pub few-on-page : (pointers : List RowPtr) (page : ℕ) → length (pointers_on pointers page) ≤ 1360
few-on-page pointers page = let long = length-take 1360 (drop (1360 * page) pointers) in omega arith

take-min : {X : Type 0} (most : ℕ) (items : List X) → take (min (length items) most) items ≡ take most items
take-min most items = go (nat_le most (length items)) refl
  where
    go : (t : Bool) → nat_le most (length items) ≡ t → take (min (length items) most) items ≡ take most items
    go true is = ap (λ (n : ℕ). take n items) (let below : most ≤ length items = grind (arith, nat_tests) in omega arith)
    go false is =
        let above : length items < most = grind (arith, nat_tests) in
        take_all (min (length items) most) items (omega arith) ∙ sym (take_all most items (omega arith))

-- what a page of the revmap takes, as slices have it
pub on-page-is : (pointers : List RowPtr) (first from most : ℕ) → from ≡ min first (length pointers)
    → most ≡ min (length (take (length pointers - from) (drop from pointers))) 1360
    → take most (take (length pointers - from) (drop from pointers)) ≡ take 1360 (drop first pointers)
on-page-is pointers first from most is_from is_most =
    let left : List RowPtr = drop from pointers in
    ap (take most) (tail-is from pointers)
    ∙ ap (λ (n : ℕ). take n left) (is_most ∙ ap (λ l. min (length l) 1360) (tail-is from pointers))
    ∙ take-min 1360 left
    ∙ ap (take 1360) (same (nat_le first (length pointers)) refl)
  where
    same : (t : Bool) → nat_le first (length pointers) ≡ t → drop from pointers ≡ drop first pointers
    same true is =
        let inside : first ≤ length pointers = grind (arith, nat_tests) in
        ap (λ (n : ℕ). drop n pointers) (let e : from ≡ first = omega arith in e)
    same false is =
        let past : length pointers < first = grind (arith, nat_tests) in
        drop_all from pointers (omega arith) ∙ sym (drop_all first pointers (omega arith))

-- one pointer more behind others
pub push-more : (block offset : ℕ) (front so_far new : List RowPtr) → 1 ≤ offset → so_far ≡ front ++ pointers_to block (offset - 1)
    → new ≡ so_far ++ record { block = block; offset = offset } ∷ [] → new ≡ front ++ pointers_to block (offset + 1 - 1)
push-more block offset front so_far new some is_so_far is_new =
    let next : offset - 1 + 1 ≡ offset + 1 - 1 = omega arith in
    let here : offset ≡ offset - 1 + 1 = omega arith in
    is_new
    ∙ ap (λ l. l ++ record { block = block; offset = offset } ∷ []) is_so_far
    ∙ append_assoc front (pointers_to block (offset - 1)) (record { block = block; offset = offset } ∷ [])
    ∙ ap (λ (n : ℕ). front ++ (pointers_to block (offset - 1) ++ record { block = block; offset = n } ∷ [])) here
    ∙ ap (λ l. front ++ l) (sym (pointers_to-more block (offset - 1)))
    ∙ ap (λ (n : ℕ). front ++ pointers_to block n) next

pub length-revmap_of : (pages : ℕ) (pointers : List RowPtr) → length (revmap_of pages pointers) ≡ 8192 * pages
length-revmap_of zero pointers = ap length (revmap-none pointers)
length-revmap_of (suc pages) pointers =
    let more = ap (λ (n : ℕ). length (revmap_of n pointers)) (let e : suc pages ≡ pages + 1 = omega arith in e) ∙ ap length (revmap-more pages pointers) in
    let both = length-append (revmap_of pages pointers) (revmap_page (pointers_on pointers pages)) in
    let one = length-revmap_page (pointers_on pointers pages) (few-on-page pointers pages) in
    let rest = length-revmap_of pages pointers in
    omega arith
