-- Regular pages: how tuples find their places, and page after page.
use Rattle.std.proofs.Common.{◌≡◌, ℕ, zero, suc, ◌+◌, ◌-◌, ◌*◌, ◌<◌, ◌≤◌, ◌^◌, List, [], ◌∷◌, ◌++◌, length, map, take, drop, get_or, refl, sym, ap, subst, ◌∙◌, arith, length-append}
use Rattle.std.specs.Prelude.{All}
use Rattle.std.specs.List.{flat_map}
use Rattle.std.proofs.lemmas.List.{append_assoc, append-nil, length-drop, length-take-le, length-map, take_more, take_all}
use Rattle.std.proofs.lemmas.List.Elements.{All-drop, All-get_or, All-take}
use Rattle.std.proofs.lemmas.List.Sums.{sum_by-cons}
use Rattle.std.proofs.lemmas.List.{drop-map, take-map}
use Rattle.std.proofs.Math.Nat.{add-mul, suc-mul}
use Rattle.pg_bytes.proofs.ItemPage.{length-item_page, lower_of-item_page, upper_of-item_page, with_item-item_page}
use Rattle.pg_bytes.specs.ItemPage.{item_page, lower_at, space_taken, upper_at}
use Rattle.pg_bytes.specs.Numbers.{rounded_up}
use Rattle.pg_bytes.specs.PageLayout.{lower_of, lower_with, upper_of, with_item}
use Rattle.opclass.specs.declared.types.ColType.{ColType}
use Rattle.brin_summary.specs.Answer.{tuple_size}
use Rattle.brin_summary.specs.File.{page_count, page_counts, parts, taken, tuples_from}
use Rattle.brin_summary.specs.Page.{regular_page, special_space}
use Rattle.brin_summary.specs.declared.special.PageType.TheVariants.{Regular}
use Rattle.brin_summary.specs.Summary.{RangeSummary}
use Rattle.brin_summary.specs.Tuple.{range_tuple}
use Rattle.brin_summary.proofs.Cutting.{counts-none, counts-step, drop-tuples, length-tuples, sizes-of-tuples, take-tuples, tuple-at}
use Rattle.brin_summary.proofs.PageWrites.{length-special_space}
use Rattle.brin_summary.proofs.Pointers.{tail-is}
use Rattle.brin_summary.proofs.Tuples.{tuple_size-anywhere, tuple_size-is}

-- a tuple as it is written: with its header, in multiples of 8 bytes
pub record IsTuple (tuple : List ℕ) : Type 0 where
  pub some : 8 ≤ length tuple
  pub whole : rounded_up 8 (length tuple) ≡ length tuple

pub range-is-tuple : (kinds : List ColType) (first : ℕ) (range : RangeSummary) → IsTuple (range_tuple kinds first range)
range-is-tuple kinds first range =
    let size = tuple_size-anywhere kinds first range ∙ tuple_size-is kinds range in
    record { some = omega arith; whole = omega arith }

pub ranges-are-tuples : (kinds : List ColType) (pages first : ℕ) (ranges : List RangeSummary) → All IsTuple (tuples_from kinds pages first ranges)
ranges-are-tuples kinds pages first [] k d inside = absurd (omega arith)
ranges-are-tuples kinds pages first (range ∷ ranges) zero d inside = range-is-tuple kinds first range
ranges-are-tuples kinds pages first (range ∷ ranges) (suc k) d inside = ranges-are-tuples kinds pages (first + pages) ranges k d (omega arith)

-- what tuples take on a page
room_of : List (List ℕ) → ℕ
room_of tuples = taken (map length tuples)

room-cons : (tuple : List ℕ) (tuples : List (List ℕ)) → room_of (tuple ∷ tuples) ≡ (length tuple + 4) + room_of tuples
unfolding room_of
room-cons tuple tuples = sum_by-cons (λ (size : ℕ). size + 4) (length tuple) (map length tuples)

space-room : (tuples : List (List ℕ)) → All IsTuple tuples → space_taken tuples + 4 * length tuples ≡ room_of tuples
unfolding room_of
space-room [] are = refl
space-room (tuple ∷ tuples) are =
    let whole = (are 0 [] (omega arith)).whole in
    let rest = space-room tuples (λ k d inside. are (suc k) d (omega arith)) in
    let parts = room-cons tuple tuples in
    omega arith

room-none : room_of [] ≡ 0
unfolding room_of
room-none = refl

room-more : (tuples : List (List ℕ)) (at : ℕ) → at < length tuples → room_of (take at tuples) + (length (get_or tuples at []) + 4) ≤ room_of tuples
room-more [] at inside = absurd (omega arith)
room-more (tuple ∷ tuples) zero inside = let parts = room-cons tuple tuples in omega (arith, room-none)
room-more (tuple ∷ tuples) (suc at) inside =
    let parts = room-cons tuple tuples in
    let front = room-cons tuple (take at tuples) in
    let rest = room-more tuples at (omega arith) in
    omega arith

-- a tuple has room behind those in front of it, and with it the page is one of a tuple more
pub record HasPlace (tuples : List (List ℕ)) (at : ℕ) (page : List ℕ) : Type 0 where
  pub few : at + 1 < 2 ^ 15
  pub some : 0 < length (get_or tuples at [])
  pub upper : upper_of page ≤ 8192
  pub room : lower_with (at + 1) page + rounded_up 8 (length (get_or tuples at [])) ≤ upper_of page
  pub more : with_item (at + 1) (get_or tuples at []) page ≡ regular_page (take (at + 1) tuples)

pub has_place : (tuples : List (List ℕ)) (at : ℕ) (page : List ℕ) → All IsTuple tuples → taken (map length tuples) ≤ 8160 → at < length tuples
    → page ≡ regular_page (take at tuples) → HasPlace tuples at page
unfolding regular_page room_of
has_place tuples at page are fits inside is =
    let special : List ℕ = special_space Regular in
    let front : List (List ℕ) = take at tuples in
    let item : List ℕ = get_or tuples at [] in
    let is_tuple : IsTuple item = All-get_or IsTuple tuples at [] inside are in
    let some = is_tuple.some in
    let whole = is_tuple.whole in
    let size = length-special_space Regular in
    let space = space-room front (All-take IsTuple at tuples are) in
    let count : length front ≡ at = length-take-le at tuples (omega arith) in
    let more = room-more tuples at inside in
    let lower : lower_of page ≡ lower_at front = ap lower_of is ∙ lower_of-item_page special front (omega arith) in
    let upper : upper_of page ≡ upper_at special front = ap upper_of is ∙ upper_of-item_page special front in
    let line : at + 1 ≡ length front + 1 = omega arith in
    record {
      few = omega arith;
      some = omega arith;
      upper = omega arith;
      room = omega arith;
      more = ap (λ (n : ℕ). with_item n item page) line
          ∙ ap (with_item (length front + 1) item) is
          ∙ with_item-item_page special front item (omega arith)
          ∙ ap (item_page special) (sym (take_more tuples at [] inside));
    }

pub length-regular_page : (tuples : List (List ℕ)) → All IsTuple tuples → taken (map length tuples) ≤ 8160 → length (regular_page tuples) ≡ 8192
unfolding regular_page room_of
length-regular_page tuples are fits =
    let size = length-special_space Regular in
    let space = space-room tuples are in
    length-item_page (special_space Regular) tuples (omega arith) (omega arith)

-- the next range's tuple, and its place
module _ (kinds : List ColType) (pages first : ℕ) (ranges : List RangeSummary) (at : ℕ) (inside : at < length ranges) where
  pub next-place : (page : List ℕ) → taken (map (tuple_size kinds) ranges) ≤ 8160
      → page ≡ regular_page (take at (tuples_from kinds pages first ranges)) → HasPlace (tuples_from kinds pages first ranges) at page
  next-place page room is =
      let count = length-tuples kinds pages first ranges in
      has_place (tuples_from kinds pages first ranges) at page (ranges-are-tuples kinds pages first ranges)
      (subst (λ l. taken l ≤ 8160) (sym (sizes-of-tuples kinds pages first ranges)) room) (omega arith) is

  pub next-tuple : (block : ℕ) (range : RangeSummary) (tuple put : List ℕ) → block ≡ first + at * pages → range ≡ get_or ranges at range
      → tuple ≡ range_tuple kinds block range → put ≡ tuple → put ≡ get_or (tuples_from kinds pages first ranges) at []
  next-tuple block range tuple put is_block is_range is_tuple is_put =
      is_put ∙ is_tuple ∙ ap (λ (n : ℕ). range_tuple kinds n range) is_block
      ∙ ap (range_tuple kinds (first + at * pages)) is_range
      ∙ sym (tuple-at kinds pages first at ranges range inside)

pub next-block : (block first at pages : ℕ) → block ≡ first + at * pages → block + pages ≡ first + (at + 1) * pages
next-block block first at pages is =
    let more = suc-mul at pages in
    let step : (at + 1) * pages ≡ suc at * pages = ap (λ (n : ℕ). n * pages) (let e : at + 1 ≡ suc at = omega arith in e) in
    omega arith

pub all-placed : (kinds : List ColType) (pages first : ℕ) (ranges : List RangeSummary) (at : ℕ) → length ranges ≤ at
    → take at (tuples_from kinds pages first ranges) ≡ tuples_from kinds pages first ranges
all-placed kinds pages first ranges at done =
    take_all at (tuples_from kinds pages first ranges) (let count = length-tuples kinds pages first ranges in omega arith)

-- ---- page after page

-- what is kept of the ranges in front
pub record PutSoFar (kinds : List ColType) (pages : ℕ) (ranges : List RangeSummary) (sizes image : List ℕ) (first : ℕ) (left : List RangeSummary) (left_sizes so_far : List ℕ) : Type 0 where
  pub put : so_far ++ flat_map regular_page (parts (page_counts left_sizes) (tuples_from kinds pages first left))
      ≡ image ++ flat_map regular_page (parts (page_counts sizes) (tuples_from kinds pages 0 ranges))
  pub are_sizes : left_sizes ≡ map (tuple_size kinds) left
  pub fit : All (λ size. size ≤ 8152) left_sizes
  pub columns : All (λ (range : RangeSummary). length range.columns ≤ 32) left
  pub blocks : first + length left * pages ≡ length ranges * pages
  pub room : length so_far + 8192 * length left ≤ length image + 8192 * length ranges

fits-of-sizes : (f : RangeSummary → ℕ) (ranges : List RangeSummary) → All (λ size. size ≤ 8152) (map f ranges) → All (λ range. f range ≤ 8152) ranges
fits-of-sizes f [] fit k d inside = absurd (omega arith)
fits-of-sizes f (range ∷ ranges) fit zero d inside = fit 0 0 (omega arith)
fits-of-sizes f (range ∷ ranges) fit (suc k) d inside = fits-of-sizes f ranges (λ j e below. fit (suc j) e (omega arith)) k d (omega arith)

pub no-put : (kinds : List ColType) (pages : ℕ) (ranges : List RangeSummary) (sizes image : List ℕ)
    → sizes ≡ map (tuple_size kinds) ranges → All (λ size. size ≤ 8152) sizes → All (λ (range : RangeSummary). length range.columns ≤ 32) ranges
    → PutSoFar kinds pages ranges sizes image 0 ranges sizes image
no-put kinds pages ranges sizes image are fit columns =
    record { put = refl; are_sizes = are; fit = fit; columns = columns; blocks = omega arith; room = omega arith }

module _ (kinds : List ColType) (pages : ℕ) (ranges : List RangeSummary) (sizes image : List ℕ) (first : ℕ) (left : List RangeSummary) (left_sizes so_far : List ℕ)
    (put_so_far : PutSoFar kinds pages ranges sizes image first left left_sizes so_far) where
  pub next-fit : (count : ℕ) → All (λ range. tuple_size kinds range ≤ 8152) (take count left)
  next-fit count =
      All-take (λ range. tuple_size kinds range ≤ 8152) count left
      (fits-of-sizes (tuple_size kinds) left (subst (All (λ size. size ≤ 8152)) put_so_far.are_sizes put_so_far.fit))

  pub next-sizes : (count : ℕ) → take count left_sizes ≡ map (tuple_size kinds) (take count left)
  next-sizes count = ap (take count) put_so_far.are_sizes ∙ take-map (tuple_size kinds) count left

  pub next-room : (count : ℕ) → taken (take count left_sizes) ≤ 8160 → taken (map (tuple_size kinds) (take count left)) ≤ 8160
  next-room count room = subst (λ l. taken l ≤ 8160) (next-sizes count) room

  length-next : (count : ℕ) → taken (take count left_sizes) ≤ 8160 → length (regular_page (tuples_from kinds pages first (take count left))) ≡ 8192
  length-next count room =
      length-regular_page (tuples_from kinds pages first (take count left)) (ranges-are-tuples kinds pages first (take count left))
      (subst (λ l. taken l ≤ 8160) (sym (sizes-of-tuples kinds pages first (take count left))) (next-room count room))

  put-behind : (count : ℕ) (page new : List ℕ) → 0 < length left → count ≡ page_count left_sizes → taken (take count left_sizes) ≤ 8160
      → count ≤ length left_sizes → page ≡ regular_page (tuples_from kinds pages first (take count left)) → new ≡ so_far ++ page
      → PutSoFar kinds pages ranges sizes image (first + count * pages) (drop count left) (drop count left_sizes) new
  put-behind count page new some is_count room_on inside is_page is_new =
      let many : length left_sizes ≡ length left = ap length put_so_far.are_sizes ∙ length-map left (tuple_size kinds) in
      let step : page_counts left_sizes ≡ count ∷ page_counts (drop count left_sizes) =
      counts-step left_sizes (omega arith) ∙ ap (λ (n : ℕ). n ∷ page_counts (drop n left_sizes)) (sym is_count) in
      let tuples : List (List ℕ) = tuples_from kinds pages first left in
      let rest : List ℕ = flat_map regular_page (parts (page_counts (drop count left_sizes)) (drop count tuples)) in
      let front : regular_page (take count tuples) ≡ page = ap regular_page (take-tuples kinds pages first count left) ∙ sym is_page in
      let behind : flat_map regular_page (parts (page_counts (drop count left_sizes)) (tuples_from kinds pages (first + count * pages) (drop count left))) ≡ rest =
      ap (λ l. flat_map regular_page (parts (page_counts (drop count left_sizes)) l)) (sym (drop-tuples kinds pages first count left)) in
      let cut : flat_map regular_page (parts (page_counts left_sizes) tuples) ≡ page ++ rest =
      ap (λ l. flat_map regular_page (parts l tuples)) step ∙ ap (λ l. l ++ rest) front in
      let one = is_count in
      let left_behind = length-drop count left in
      let spread = add-mul count (length left - count) pages in
      let whole : (count + (length left - count)) * pages ≡ length left * pages = ap (λ (n : ℕ). n * pages) (let e : count + (length left - count) ≡ length left = omega arith in e) in
      let fewer : length (drop count left) * pages ≡ (length left - count) * pages = ap (λ (n : ℕ). n * pages) left_behind in
      let old_blocks = put_so_far.blocks in
      let old_room = put_so_far.room in
      let grown = ap length is_new ∙ length-append so_far page in
      let page_size = ap length is_page ∙ length-next count room_on in
      record {
        put = ap (λ l. l ++ flat_map regular_page (parts (page_counts (drop count left_sizes)) (tuples_from kinds pages (first + count * pages) (drop count left)))) is_new
            ∙ ap (λ l. (so_far ++ page) ++ l) behind
            ∙ append_assoc so_far page rest
            ∙ ap (λ l. so_far ++ l) (sym cut)
            ∙ put_so_far.put;
        are_sizes = ap (drop count) put_so_far.are_sizes ∙ drop-map (tuple_size kinds) count left;
        fit = All-drop (λ size. size ≤ 8152) count left_sizes put_so_far.fit;
        columns = All-drop (λ (range : RangeSummary). length range.columns ≤ 32) count left put_so_far.columns;
        blocks = omega arith;
        room = omega arith;
      }

  -- one page more
  pub more-put : (count : ℕ) (page new : List ℕ) → 0 < length left → count ≡ page_count left_sizes → taken (take count left_sizes) ≤ 8160
      → count ≤ length left_sizes → page ≡ regular_page (tuples_from kinds pages first (take count left)) → new ≡ so_far ++ page
      → PutSoFar kinds pages ranges sizes image (first + count * pages) (take (length left - count) (drop count left))
      (take (length left_sizes - count) (drop count left_sizes)) new
  more-put count page new some is_count room_on inside is_page is_new =
      rw (tail-is count left, tail-is count left_sizes) (put-behind count page new some is_count room_on inside is_page is_new)

  pub all-put : length left ≡ 0 → so_far ≡ image ++ flat_map regular_page (parts (page_counts sizes) (tuples_from kinds pages 0 ranges))
  all-put none =
      let many : length left_sizes ≡ length left = ap length put_so_far.are_sizes ∙ length-map left (tuple_size kinds) in
      sym (append-nil so_far)
      ∙ ap (λ l. so_far ++ flat_map regular_page (parts l (tuples_from kinds pages first left))) (sym (counts-none left_sizes (omega arith)))
      ∙ put_so_far.put
