-- The whole file, and the least wide range.
use Rattle.std.proofs.Common.{◌≡◌, ℕ, suc, ◌+◌, ◌*◌, ◌<◌, ◌≤◌, ◌^◌, Bool, true, nat_lt, if◌then◌else◌, Some, None, List, [], ◌∷◌, ◌++◌, length, map, drop, get_or, sym, ap, ◌∙◌, arith, length-append}
use Rattle.std.proofs.lemmas.Bool.Decides.{nat_tests}
use Rattle.std.proofs.lemmas.List.{append_assoc, drop_all}
use Rattle.std.proofs.Math.Nat.{le-mul_of_pos_right}
use Rattle.std.proofs.Math.Seq.{drop-cons}
use Rattle.std.specs.List.{flat_map}
use Rattle.pg_bytes.specs.declared.row_ptr.RowPtr.{RowPtr}
use Rattle.opclass.specs.declared.types.ColType.{ColType}
use Rattle.brin_summary.specs.Answer.{tuple_size, wide_from, wide_range}
use Rattle.brin_summary.specs.File.{brin_file, page_counts, pages_of, parts, pointers_from, revmap_of, revmap_pages, tuples_from}
use Rattle.brin_summary.specs.Page.{meta_page, regular_page}
use Rattle.brin_summary.specs.Summary.{RangeSummary}
use Rattle.brin_summary.proofs.Cutting.{sizes-of-tuples}
use Rattle.brin_summary.proofs.PageWrites.{length-meta_page}
use Rattle.brin_summary.proofs.Pointers.{length-revmap_of}

-- a range that is wide is the least where none in front of it is
pub wide-here : (kinds : List ColType) (ranges : List RangeSummary) (at : ℕ) (range : RangeSummary) (size : ℕ) → at < length ranges → range ≡ get_or ranges at range
    → size ≡ tuple_size kinds range → 8152 < size → wide_from kinds 0 ranges ≡ wide_from kinds at (drop at ranges)
    → wide_range kinds ranges ≡ Some (record { range = at; size = size })
unfolding wide_range
wide-here kinds ranges at range size inside is is_size wide so_far =
    let here : drop at ranges ≡ range ∷ drop (suc at) ranges = drop-cons ranges at range inside ∙ ap (λ r. r ∷ drop (suc at) ranges) (sym is) in
    let yes : nat_lt 8152 (tuple_size kinds range) ≡ true = grind (arith, nat_tests) in
    so_far ∙ ap (wide_from kinds at) here
    ∙ ap (λ (t : Bool). if t then Some (record { range = at; size = tuple_size kinds range }) else wide_from kinds (at + 1) (drop (suc at) ranges)) yes
    ∙ ap (λ (n : ℕ). Some (record { range = at; size = n })) (sym is_size)

-- no range is wide where none in front of the end is
pub none-wide : (kinds : List ColType) (ranges : List RangeSummary) (at : ℕ) → length ranges ≤ at
    → wide_from kinds 0 ranges ≡ wide_from kinds at (drop at ranges) → wide_range kinds ranges ≡ None
unfolding wide_range
none-wide kinds ranges at end so_far = so_far ∙ ap (wide_from kinds at) (drop_all at ranges end)

-- the number of ranges has its limit
pub few-ranges : (count pages : ℕ) → 1 ≤ pages → count * pages < 2 ^ 24 → count < 2 ^ 24
few-ranges count pages some few =
    let more : count ≤ count * pages = le-mul_of_pos_right count (let e : 0 < pages = omega arith in e) in
    omega arith

-- the file as it is written, part by part
module _ (kinds : List ColType) (pages : ℕ) (ranges : List RangeSummary) (sizes : List ℕ) (revmap : ℕ) (pointers : List RowPtr)
    (first second third : List ℕ) (put_first : first ≡ [] ++ meta_page pages revmap) (put_second : second ≡ first ++ revmap_of revmap pointers) where
  pub written-file : sizes ≡ map (tuple_size kinds) ranges → revmap ≡ revmap_pages (length ranges)
      → pointers ≡ pointers_from (1 + revmap) (page_counts sizes)
      → third ≡ second ++ flat_map regular_page (parts (page_counts sizes) (tuples_from kinds pages 0 ranges))
      → third ≡ brin_file kinds pages ranges
  unfolding brin_file pages_of
  written-file are_sizes is_revmap are_pointers put_third =
      let same : sizes ≡ map length (tuples_from kinds pages 0 ranges) = are_sizes ∙ sym (sizes-of-tuples kinds pages 0 ranges) in
      let file : ℕ → List RowPtr → List ℕ → List ℕ = λ (count : ℕ) (points : List RowPtr) (s : List ℕ).
      meta_page pages count ++ (revmap_of count points ++ flat_map regular_page (parts (page_counts s) (tuples_from kinds pages 0 ranges))) in
      put_third
      ∙ ap (λ l. l ++ flat_map regular_page (parts (page_counts sizes) (tuples_from kinds pages 0 ranges))) (put_second ∙ ap (λ l. l ++ revmap_of revmap pointers) put_first)
      ∙ append_assoc (meta_page pages revmap) (revmap_of revmap pointers) (flat_map regular_page (parts (page_counts sizes) (tuples_from kinds pages 0 ranges)))
      ∙ ap (λ p. file revmap p sizes) are_pointers
      ∙ ap (λ s. file revmap (pointers_from (1 + revmap) (page_counts s)) s) same
      ∙ ap (λ (n : ℕ). file n (pointers_from (1 + n) (page_counts (map length (tuples_from kinds pages 0 ranges)))) (map length (tuples_from kinds pages 0 ranges))) is_revmap

  pub room-left : 1 ≤ pages → length ranges * pages < 2 ^ 24 → revmap ≡ revmap_pages (length ranges)
      → length second + 8192 * length ranges ≤ 8192 * 2 ^ 30
  room-left some few is_revmap =
      let count = few-ranges (length ranges) pages some few in
      let a = ap length put_second ∙ length-append first (revmap_of revmap pointers) in
      let b = ap length put_first in
      let m = length-meta_page pages revmap in
      let r = length-revmap_of revmap pointers in
      omega arith
