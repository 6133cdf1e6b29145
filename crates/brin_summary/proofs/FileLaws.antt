-- Each page of a file stands at its block.
use Rattle.std.proofs.Common.{◌≡◌, ℕ, zero, suc, ◌+◌, ◌*◌, ◌<◌, ◌≤◌, Some, None, Option, List, [], ◌∷◌, ◌++◌, length, map, take, drop, get_or, refl, sym, ap, ◌∙◌, arith, length-append, zero-add}
use Rattle.std.specs.Prelude.{All, slice_get}
use Rattle.std.specs.List.{flat_map, range_with_len}
use Rattle.std.proofs.lemmas.List.{append_assoc, append-nil, take_at}
use Rattle.std.proofs.Math.Seq.{drop-append-add}
use Rattle.pg_bytes.specs.Blocks.{block_at}
use Rattle.pg_bytes.specs.declared.row_ptr.RowPtr.{RowPtr}
use Rattle.opclass.specs.declared.types.ColType.{ColType}
use Rattle.brin_summary.specs.Answer.{tuple_size, wide_range}
use Rattle.brin_summary.specs.File.{brin_file, page_counts, pages_of, pointers_from, pointers_on, revmap_of, revmap_pages, tuples_from}
use Rattle.brin_summary.specs.Laws.{HasItsPages}
use Rattle.brin_summary.specs.Page.{meta_page, regular_page, revmap_page}
use Rattle.brin_summary.specs.Summary.{RangeSummary}
use Rattle.brin_summary.specs.Tuple.{range_tuple}
use Rattle.brin_summary.proofs.PageLaws.{each-passes, none_is_wide, pages_fit}
use Rattle.brin_summary.proofs.PageWrites.{length-meta_page, length-revmap_page}
use Rattle.brin_summary.proofs.Pointers.{few-on-page, length-revmap_of}
use Rattle.brin_summary.proofs.TuplePages.{IsTuple, length-regular_page, ranges-are-tuples}
use Rattle.brin_summary.proofs.Tuples.{tuple_size-anywhere}

-- ---- blocks of a list of bytes

first-block : (page rest : List ℕ) → length page ≡ 8192 → block_at 0 (page ++ rest) ≡ page
unfolding block_at
first-block page rest size = take_at page rest 8192 size

block-behind : (front rest : List ℕ) (count block : ℕ) → length front ≡ 8192 * count → block_at (count + block) (front ++ rest) ≡ block_at block rest
unfolding block_at
block-behind front rest count block size =
    ap (take 8192)
    (ap (λ (n : ℕ). drop n (front ++ rest)) (let e : 8192 * (count + block) ≡ length front + 8192 * block = omega arith in e)
    ∙ drop-append-add front rest (8192 * block))

module _ {X : Type 0} (f : X → List ℕ) where
  length-pieces : (pieces : List X) → All (λ x. length (f x) ≡ 8192) pieces → length (flat_map f pieces) ≡ 8192 * length pieces
  length-pieces [] whole = refl
  length-pieces (x ∷ pieces) whole =
      let both = length-append (f x) (flat_map f pieces) in
      let first = whole 0 x (omega arith) in
      let rest = length-pieces pieces (λ k d inside. whole (suc k) d (omega arith)) in
      omega arith

  piece-at : (pieces : List X) (rest : List ℕ) (at : ℕ) (x : X) → All (λ x. length (f x) ≡ 8192) pieces → slice_get pieces at ≡ Some x
      → block_at at (flat_map f pieces ++ rest) ≡ f x
  piece-at [] rest at x whole is = let none : ◌≡◌ {A = Option X} None (Some x) = is in cc
  piece-at (first ∷ pieces) rest zero x whole is =
      let same : first ≡ x = cc in
      ap (block_at 0) (append_assoc (f first) (flat_map f pieces) rest)
      ∙ first-block (f first) (flat_map f pieces ++ rest) (whole 0 first (omega arith)) ∙ ap f same
  piece-at (first ∷ pieces) rest (suc at) x whole is =
      let size : length (f first) ≡ 8192 * 1 = whole 0 first (omega arith) in
      ap (block_at (suc at)) (append_assoc (f first) (flat_map f pieces) rest)
      ∙ ap (λ (n : ℕ). block_at n (f first ++ (flat_map f pieces ++ rest))) (let e : suc at ≡ 1 + at = omega arith in e)
      ∙ block-behind (f first) (flat_map f pieces ++ rest) 1 at size
      ∙ piece-at pieces rest at x (λ k d inside. whole (suc k) d (omega arith)) is

range-at : (base count at : ℕ) → at < count → slice_get (range_with_len base count) at ≡ Some (base + at)
range-at base zero at inside = absurd (omega arith)
range-at base (suc count) zero inside = ap Some (let e : base ≡ base + 0 = omega arith in e)
range-at base (suc count) (suc at) inside =
    range-at (base + 1) count at (omega arith) ∙ ap Some (let e : base + 1 + at ≡ base + suc at = omega arith in e)

-- ---- the file

revmap-whole : (pointers : List RowPtr) (pages : List ℕ) → All (λ page. length (revmap_page (pointers_on pointers page)) ≡ 8192) pages
revmap-whole pointers pages k d inside = length-revmap_page (pointers_on pointers (get_or pages k d)) (few-on-page pointers (get_or pages k d))

in-revmap : (pointers : List RowPtr) (count page : ℕ) (rest : List ℕ) → page < count
    → block_at page (revmap_of count pointers ++ rest) ≡ revmap_page (pointers_on pointers page)
unfolding revmap_of
in-revmap pointers count page rest inside =
    piece-at (λ (p : ℕ). revmap_page (pointers_on pointers p)) (range_with_len 0 count) rest page page (revmap-whole pointers (range_with_len 0 count))
    (range-at 0 count page inside ∙ ap Some (zero-add page))

tuples-small : (kinds : List ColType) (pages first : ℕ) (ranges : List RangeSummary) → All (λ range. tuple_size kinds range ≤ 8152) ranges
    → All (λ tuple. length tuple ≤ 8152) (tuples_from kinds pages first ranges)
tuples-small kinds pages first [] small = λ k d inside. absurd (omega arith)
tuples-small kinds pages first (range ∷ ranges) small =
    more (tuples-small kinds pages (first + pages) ranges (λ k d inside. small (suc k) d (omega arith)))
  where
    more : All (λ tuple. length tuple ≤ 8152) (tuples_from kinds pages (first + pages) ranges)
        → All (λ tuple. length tuple ≤ 8152) (range_tuple kinds first range ∷ tuples_from kinds pages (first + pages) ranges)
    more rest zero d inside = let size = tuple_size-anywhere kinds first range in let here = small 0 range (omega arith) in omega arith
    more rest (suc k) d inside = rest k d (omega arith)

regular-whole : (kinds : List ColType) (pages : ℕ) (ranges : List RangeSummary) → wide_range kinds ranges ≡ None
    → All (λ page. length (regular_page page) ≡ 8192) (pages_of (tuples_from kinds pages 0 ranges))
regular-whole kinds pages ranges none k d inside =
    let tuples : List (List ℕ) = tuples_from kinds pages 0 ranges in
    length-regular_page (get_or (pages_of tuples) k d)
    (each-passes IsTuple tuples (ranges-are-tuples kinds pages 0 ranges) k d inside)
    (pages_fit tuples (tuples-small kinds pages 0 ranges (none_is_wide kinds ranges none)) k d inside)

pub has_its_pages : (kinds : List ColType) (pages_per_range : ℕ) (ranges : List RangeSummary) → wide_range kinds ranges ≡ None
    → HasItsPages kinds pages_per_range ranges (brin_file kinds pages_per_range ranges)
unfolding brin_file
has_its_pages kinds pages_per_range ranges none =
    let tuples : List (List ℕ) = tuples_from kinds pages_per_range 0 ranges in
    let count : ℕ = revmap_pages (length ranges) in
    let pointers : List RowPtr = pointers_from (1 + count) (page_counts (map length tuples)) in
    let meta : List ℕ = meta_page pages_per_range count in
    let revmap : List ℕ = revmap_of count pointers in
    let regular : List ℕ = flat_map regular_page (pages_of tuples) in
    let meta_size = length-meta_page pages_per_range count in
    let revmap_size = length-revmap_of count pointers in
    let whole = regular-whole kinds pages_per_range ranges none in
    let regular_size = length-pieces regular_page (pages_of tuples) whole in
    let all = length-append meta (revmap ++ regular) in
    let rest = length-append revmap regular in
    record {
      blocks = omega arith;
      meta = first-block meta (revmap ++ regular) meta_size;
      revmap = λ page inside.
          block-behind meta (revmap ++ regular) 1 page meta_size
          ∙ in-revmap pointers count page regular inside;
      regular = λ at page is.
          ap (λ (n : ℕ). block_at n (meta ++ (revmap ++ regular))) (let e : 1 + count + at ≡ 1 + (count + at) = omega arith in e)
          ∙ block-behind meta (revmap ++ regular) 1 (count + at) meta_size
          ∙ block-behind revmap regular count at revmap_size
          ∙ ap (block_at at) (sym (append-nil regular))
          ∙ piece-at regular_page (pages_of tuples) [] at page whole is;
    }
