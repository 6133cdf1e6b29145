-- What holds of pages and of pointers, whatever the tuples are.
use Rattle.std.proofs.Common.{◌≡◌, ℕ, zero, suc, ◌+◌, ◌-◌, ◌<◌, ◌≤◌, Bool, true, false, nat_lt, Some, None, Option, List, [], ◌∷◌, ◌++◌, length, map, take, drop, get_or, refl, sym, ap, subst, ◌∙◌, arith, length-append}
use Rattle.std.specs.Prelude.{All, slice_get}
use Rattle.std.specs.List.{flat_map, position_or_len, range_with_len}
use Rattle.std.proofs.lemmas.Bool.Decides.{nat_tests}
use Rattle.std.proofs.lemmas.List.{drop-map, get_or-drop, length-drop, length-map, length-take-le, take-append-drop, take-map, take_more}
use Rattle.std.proofs.lemmas.List.FromFn.{length-range_with_len}
use Rattle.std.proofs.lemmas.List.Elements.{All-drop, All-map, All-take}
use Rattle.pg_bytes.specs.declared.row_ptr.RowPtr.{RowPtr}
use Rattle.opclass.specs.declared.types.ColType.{ColType}
use Rattle.brin_summary.specs.Answer.{Wide, tuple_size, wide_from, wide_range}
use Rattle.brin_summary.specs.File.{breaks, counts_within, page_count, page_counts, pages_of, parts, pointers_from, pointers_to, taken}
use Rattle.brin_summary.specs.Laws.{IsFilledBefore, IsLeastWide, LeadsTo}
use Rattle.brin_summary.specs.Summary.{RangeSummary}
use Rattle.brin_summary.proofs.Cutting.{taken-more}

-- ---- the first place at which a test holds

-- the place is the first or behind it, by what the test says there
position-here : (p : ℕ → Bool) (base n : ℕ) → p base ≡ true → position_or_len p (range_with_len base (suc n)) ≡ 0
position-here p base n is = rw is refl

position-behind : (p : ℕ → Bool) (base n : ℕ) → p base ≡ false
    → position_or_len p (range_with_len base (suc n)) ≡ 1 + position_or_len p (range_with_len (base + 1) n)
position-behind p base n is = rw is refl

-- in front of it the test doesn't hold
none-before : (p : ℕ → Bool) (base n j : ℕ) → j < position_or_len p (range_with_len base n) → p (base + j) ≡ false
none-before p base zero j before = absurd (omega arith)
none-before p base (suc n) j before = go (p base) refl j before (none-before p (base + 1) n)
  where
    go : (t : Bool) → p base ≡ t → (j : ℕ) → j < position_or_len p (range_with_len base (suc n))
        → ((j : ℕ) → j < position_or_len p (range_with_len (base + 1) n) → p (base + 1 + j) ≡ false) → p (base + j) ≡ false
    go true is j before rest = absurd (let none = position-here p base n is in omega arith)
    go false is zero before rest = ap p (let e : base + 0 ≡ base = omega arith in e) ∙ is
    go false is (suc j) before rest =
        let more = position-behind p base n is in
        ap p (let e : base + suc j ≡ base + 1 + j = omega arith in e) ∙ rest j (omega arith)

-- at it the test holds
holds-at : (p : ℕ → Bool) (base n : ℕ) → position_or_len p (range_with_len base n) < n → p (base + position_or_len p (range_with_len base n)) ≡ true
holds-at p base zero inside = absurd (omega arith)
holds-at p base (suc n) inside = go (p base) refl (holds-at p (base + 1) n)
  where
    go : (t : Bool) → p base ≡ t
        → (position_or_len p (range_with_len (base + 1) n) < n → p (base + 1 + position_or_len p (range_with_len (base + 1) n)) ≡ true)
        → p (base + position_or_len p (range_with_len base (suc n))) ≡ true
    go true is rest =
        let none = position-here p base n is in
        ap (λ (k : ℕ). p (base + k)) none ∙ ap p (let e : base + 0 ≡ base = omega arith in e) ∙ is
    go false is rest =
        let more = position-behind p base n is in
        ap (λ (k : ℕ). p (base + k)) more
        ∙ ap p (let e : base + (1 + position_or_len p (range_with_len (base + 1) n)) ≡ base + 1 + position_or_len p (range_with_len (base + 1) n) = omega arith in e)
        ∙ rest (omega arith)

position-most : (p : ℕ → Bool) (base n : ℕ) → position_or_len p (range_with_len base n) ≤ n
position-most p base zero = omega arith
position-most p base (suc n) = go (p base) refl (position-most p (base + 1) n)
  where
    go : (t : Bool) → p base ≡ t → position_or_len p (range_with_len (base + 1) n) ≤ n → position_or_len p (range_with_len base (suc n)) ≤ suc n
    go true is rest = let none = position-here p base n is in omega arith
    go false is rest = let more = position-behind p base n is in omega arith

-- ---- the first page

pub count-inside : (sizes : List ℕ) → 0 < length sizes → page_count sizes ≤ length sizes
count-inside sizes some = let most = position-most (breaks sizes) 1 (length sizes - 1) in omega arith

unbroken : (sizes : List ℕ) (count : ℕ) → breaks sizes count ≡ false → taken (take (suc count) sizes) ≤ 8160
unbroken sizes count has_room = grind (arith, nat_tests)

over : (sizes : List ℕ) (count : ℕ) → breaks sizes count ≡ true → 8160 < taken (take (suc count) sizes)
over sizes count has_none = grind (arith, nat_tests)

count-room : (sizes : List ℕ) → 0 < length sizes → All (λ size. size ≤ 8152) sizes → taken (take (page_count sizes) sizes) ≤ 8160
count-room sizes some fit = go (position_or_len (breaks sizes) (range_with_len 1 (length sizes - 1))) refl
  where
    go : (at : ℕ) → position_or_len (breaks sizes) (range_with_len 1 (length sizes - 1)) ≡ at → taken (take (page_count sizes) sizes) ≤ 8160
    go zero is =
        let one : page_count sizes ≡ 0 + 1 = ap suc is ∙ omega arith in
        let first = taken-more sizes 0 some in
        let small = fit 0 0 some in
        subst (λ (n : ℕ). taken (take n sizes) ≤ 8160) (sym one) (omega arith)
    go (suc at) is =
        let no : breaks sizes (1 + at) ≡ false = none-before (breaks sizes) 1 (length sizes - 1) at (omega arith) in
        let count : page_count sizes ≡ suc (1 + at) = ap suc is ∙ omega arith in
        subst (λ (n : ℕ). taken (take n sizes) ≤ 8160) (sym count) (unbroken sizes (1 + at) no)

count-filled : (sizes : List ℕ) → page_count sizes < length sizes → 8160 < taken (take (page_count sizes + 1) sizes)
count-filled sizes more =
    let at : ℕ = position_or_len (breaks sizes) (range_with_len 1 (length sizes - 1)) in
    let yes : breaks sizes (1 + at) ≡ true = holds-at (breaks sizes) 1 (length sizes - 1) (omega arith) in
    subst (λ (n : ℕ). 8160 < taken (take n sizes)) (let e : suc (1 + at) ≡ page_count sizes + 1 = omega arith in e) (over sizes (1 + at) yes)

-- ---- all pages

sizes-behind : (count : ℕ) (tuples : List (List ℕ)) → drop count (map length tuples) ≡ map length (drop count tuples)
sizes-behind count tuples = drop-map (λ (t : List ℕ). length t) count tuples

pages-within : ℕ → List (List ℕ) → List (List (List ℕ))
pages-within bound tuples = parts (counts_within bound (map length tuples)) tuples

-- the first page, and those behind it
within-step : (bound : ℕ) (tuple : List ℕ) (tuples : List (List ℕ))
    → pages-within (suc bound) (tuple ∷ tuples)
    ≡ take (page_count (map length (tuple ∷ tuples))) (tuple ∷ tuples) ∷ pages-within bound (drop (page_count (map length (tuple ∷ tuples))) (tuple ∷ tuples))
unfolding pages-within
within-step bound tuple tuples =
    let count : ℕ = page_count (map length (tuple ∷ tuples)) in
    ap (λ s. take count (tuple ∷ tuples) ∷ parts (counts_within bound s) (drop count (tuple ∷ tuples))) (sizes-behind count (tuple ∷ tuples))

within-none : (bound : ℕ) → pages-within bound [] ≡ []
unfolding pages-within
within-none zero = refl
within-none (suc bound) = refl

shorter : (bound : ℕ) (tuple : List ℕ) (tuples : List (List ℕ)) → length (tuple ∷ tuples) ≤ suc bound
    → length (drop (page_count (map length (tuple ∷ tuples))) (tuple ∷ tuples)) ≤ bound
shorter bound tuple tuples inside =
    let left = length-drop (page_count (map length (tuple ∷ tuples))) (tuple ∷ tuples) in
    omega arith

hold-within : (bound : ℕ) (tuples : List (List ℕ)) → length tuples ≤ bound → flat_map (λ page. page) (pages-within bound tuples) ≡ tuples
hold-within bound [] inside = ap (flat_map (λ page. page)) (within-none bound)
hold-within zero (tuple ∷ tuples) inside = absurd (omega arith)
hold-within (suc bound) (tuple ∷ tuples) inside =
    let count : ℕ = page_count (map length (tuple ∷ tuples)) in
    ap (flat_map (λ page. page)) (within-step bound tuple tuples)
    ∙ ap (λ l. take count (tuple ∷ tuples) ++ l) (hold-within bound (drop count (tuple ∷ tuples)) (shorter bound tuple tuples inside))
    ∙ take-append-drop count (tuple ∷ tuples)

pub pages_hold : (tuples : List (List ℕ)) → flat_map (λ page. page) (pages_of tuples) ≡ tuples
unfolding pages_of page_counts pages-within
pages_hold tuples = ap (λ (n : ℕ). flat_map (λ page. page) (parts (counts_within n (map length tuples)) tuples)) (length-map tuples length)
    ∙ hold-within (length tuples) tuples (omega arith)

fit-within : (bound : ℕ) (tuples : List (List ℕ)) → length tuples ≤ bound → All (λ tuple. length tuple ≤ 8152) tuples
    → All (λ page. taken (map length page) ≤ 8160) (pages-within bound tuples)
fit-within bound [] inside fit = subst (All (λ page. taken (map length page) ≤ 8160)) (sym (within-none bound)) (λ k d no. absurd (omega arith))
fit-within zero (tuple ∷ tuples) inside fit = absurd (omega arith)
fit-within (suc bound) (tuple ∷ tuples) inside fit =
    let count : ℕ = page_count (map length (tuple ∷ tuples)) in
    subst (All (λ page. taken (map length page) ≤ 8160)) (sym (within-step bound tuple tuples))
    (both (take count (tuple ∷ tuples)) (pages-within bound (drop count (tuple ∷ tuples)))
    (subst (λ l. taken l ≤ 8160) (take-map (λ (t : List ℕ). length t) count (tuple ∷ tuples))
    (count-room (map length (tuple ∷ tuples)) (omega arith) (All-map (λ size. size ≤ 8152) (λ (t : List ℕ). length t) (tuple ∷ tuples) fit)))
    (fit-within bound (drop count (tuple ∷ tuples)) (shorter bound tuple tuples inside) (All-drop (λ t. length t ≤ 8152) count (tuple ∷ tuples) fit)))
  where
    both : (page : List (List ℕ)) (pages : List (List (List ℕ))) → taken (map length page) ≤ 8160 → All (λ page. taken (map length page) ≤ 8160) pages
        → All (λ page. taken (map length page) ≤ 8160) (page ∷ pages)
    both page pages one rest zero d inside = one
    both page pages one rest (suc k) d inside = rest k d (omega arith)

pub pages_fit : (tuples : List (List ℕ)) → All (λ tuple. length tuple ≤ 8152) tuples → All (λ page. taken (map length page) ≤ 8160) (pages_of tuples)
unfolding pages_of page_counts pages-within
pages_fit tuples fit =
    subst (λ (n : ℕ). All (λ page. taken (map length page) ≤ 8160) (parts (counts_within n (map length tuples)) tuples)) (sym (length-map tuples length))
    (fit-within (length tuples) tuples (omega arith) fit)

-- ---- pointers

slice_get-in_front : {X : Type 0} (front behind : List X) (at : ℕ) → at < length front → slice_get (front ++ behind) at ≡ slice_get front at
slice_get-in_front [] behind at inside = absurd (omega arith)
slice_get-in_front (x ∷ front) behind zero inside = refl
slice_get-in_front (x ∷ front) behind (suc at) inside = slice_get-in_front front behind at (omega arith)

slice_get-behind : {X : Type 0} (front behind : List X) (at : ℕ) → length front ≤ at → slice_get (front ++ behind) at ≡ slice_get behind (at - length front)
slice_get-behind [] behind at inside = ap (slice_get behind) (let e : at ≡ at - 0 = omega arith in e)
slice_get-behind (x ∷ front) behind zero inside = absurd (omega arith)
slice_get-behind (x ∷ front) behind (suc at) inside =
    slice_get-behind front behind at (omega arith) ∙ ap (slice_get behind) (let e : at - length front ≡ suc at - length (x ∷ front) = omega arith in e)

length-pointers_to : (block count : ℕ) → length (pointers_to block count) ≡ count
length-pointers_to block count = length-map (range_with_len 1 count) (λ offset. record { block = block; offset = offset }) ∙ length-range_with_len 1 count

pointer-at : (block base count at : ℕ) (pointer : RowPtr)
    → slice_get (map (λ (offset : ℕ). record { block = block; offset = offset }) (range_with_len base count)) at ≡ Some pointer
    → pointer ≡ record { block = block; offset = base + at }
pointer-at block base zero at pointer is = let none : ◌≡◌ {A = Option RowPtr} None (Some pointer) = is in cc
pointer-at block base (suc count) zero pointer is =
    let same : ◌≡◌ {A = RowPtr} (record { block = block; offset = base }) pointer = cc in
    sym same ∙ ap (λ (n : ℕ). record { block = block; offset = n }) (let e : base ≡ base + 0 = omega arith in e)
pointer-at block base (suc count) (suc at) pointer is =
    pointer-at block (base + 1) count at pointer is
    ∙ ap (λ (n : ℕ). record { block = block; offset = n }) (let e : base + 1 + at ≡ base + suc at = omega arith in e)

pointers-within : ℕ → ℕ → List (List ℕ) → List RowPtr
pointers-within bound first tuples = pointers_from first (counts_within bound (map length tuples))

pointers-step : (bound first : ℕ) (tuple : List ℕ) (tuples : List (List ℕ))
    → pointers-within (suc bound) first (tuple ∷ tuples)
    ≡ pointers_to first (page_count (map length (tuple ∷ tuples)))
    ++ pointers-within bound (first + 1) (drop (page_count (map length (tuple ∷ tuples))) (tuple ∷ tuples))
unfolding pointers-within
pointers-step bound first tuple tuples =
    let count : ℕ = page_count (map length (tuple ∷ tuples)) in
    ap (λ s. pointers_to first count ++ pointers_from (first + 1) (counts_within bound s)) (sizes-behind count (tuple ∷ tuples))

pointers-none : (bound first : ℕ) → pointers-within bound first [] ≡ []
unfolding pointers-within
pointers-none zero first = refl
pointers-none (suc bound) first = refl

length-within : (bound first : ℕ) (tuples : List (List ℕ)) → length tuples ≤ bound → length (pointers-within bound first tuples) ≡ length tuples
length-within bound first [] inside = ap length (pointers-none bound first)
length-within zero first (tuple ∷ tuples) inside = absurd (omega arith)
length-within (suc bound) first (tuple ∷ tuples) inside =
    let count : ℕ = page_count (map length (tuple ∷ tuples)) in
    let rest : List (List ℕ) = drop count (tuple ∷ tuples) in
    let whole = ap length (pointers-step bound first tuple tuples) ∙ length-append (pointers_to first count) (pointers-within bound (first + 1) rest) in
    let here = length-pointers_to first count in
    let more = length-within bound (first + 1) rest (shorter bound tuple tuples inside) in
    let left = length-drop count (tuple ∷ tuples) in
    let most = count-inside (map length (tuple ∷ tuples)) (omega arith) in
    let many = length-map (tuple ∷ tuples) (λ (t : List ℕ). length t) in
    omega arith

pub each_has_a_pointer : (first : ℕ) (tuples : List (List ℕ)) → length (pointers_from first (page_counts (map length tuples))) ≡ length tuples
unfolding page_counts pointers-within
each_has_a_pointer first tuples =
    ap (λ (n : ℕ). length (pointers_from first (counts_within n (map length tuples)))) (length-map tuples length)
    ∙ length-within (length tuples) first tuples (omega arith)

lead-within : (bound first range : ℕ) (tuples : List (List ℕ)) (pointer : RowPtr) (tuple : List ℕ) → length tuples ≤ bound
    → slice_get (pointers-within bound first tuples) range ≡ Some pointer → slice_get tuples range ≡ Some tuple
    → LeadsTo first (pages-within bound tuples) pointer tuple
lead-within bound first range [] pointer tuple inside points there = let none : ◌≡◌ {A = Option (List ℕ)} None (Some tuple) = there in cc
lead-within zero first range (one ∷ tuples) pointer tuple inside points there = absurd (omega arith)
lead-within (suc bound) first range (one ∷ tuples) pointer tuple inside points there =
    go (nat_lt range count) refl (lead-within bound (first + 1) (range - count) (drop count all) pointer tuple (shorter bound one tuples inside))
  where
    all : List (List ℕ)
    all = one ∷ tuples

    count : ℕ
    count = page_count (map length all)

    page : List (List ℕ)
    page = take count all

    parted : page ++ drop count all ≡ all
    parted = take-append-drop count all

    most : count ≤ length all
    most = let inside = count-inside (map length all) (omega arith) in let many = length-map all (λ (t : List ℕ). length t) in omega arith

    size : length page ≡ count
    size = length-take-le count all most

    points' : slice_get (pointers_to first count ++ pointers-within bound (first + 1) (drop count all)) range ≡ Some pointer
    points' = ap (λ l. slice_get l range) (sym (pointers-step bound first one tuples)) ∙ points

    go : (t : Bool) → nat_lt range count ≡ t
        → (slice_get (pointers-within bound (first + 1) (drop count all)) (range - count) ≡ Some pointer → slice_get (drop count all) (range - count) ≡ Some tuple
        → LeadsTo (first + 1) (pages-within bound (drop count all)) pointer tuple)
        → LeadsTo first (pages-within (suc bound) all) pointer tuple
    go true is later =
        let front : range < count = grind (arith, nat_tests) in
        let page_size = size in
        let long = length-pointers_to first count in
        let here : pointer ≡ record { block = first; offset = 1 + range } =
        pointer-at first 1 count range pointer
        (sym (slice_get-in_front (pointers_to first count) (pointers-within bound (first + 1) (drop count all)) range (omega arith)) ∙ points') in
        let block = ap (λ (p : RowPtr). p.block) here in
        let offset = ap (λ (p : RowPtr). p.offset) here in
        record {
          behind = omega arith;
          page = page;
          on_page = ap (λ l. slice_get l (pointer.block - first)) (within-step bound one tuples)
              ∙ ap (slice_get (page ∷ pages-within bound (drop count all))) (let e : pointer.block - first ≡ 0 = omega arith in e);
          counted = omega arith;
          there = ap (slice_get page) (let e : pointer.offset - 1 ≡ range = omega arith in e)
              ∙ sym (slice_get-in_front page (drop count all) range (omega arith))
              ∙ ap (λ l. slice_get l range) parted ∙ there;
        }
    go false is later =
        let past : count ≤ range = grind (arith, nat_tests) in
        let page_size = size in
        let long = length-pointers_to first count in
        let found = later
        (ap (slice_get (pointers-within bound (first + 1) (drop count all))) (let e : range - count ≡ range - length (pointers_to first count) = omega arith in e)
        ∙ sym (slice_get-behind (pointers_to first count) (pointers-within bound (first + 1) (drop count all)) range (omega arith)) ∙ points')
        (ap (slice_get (drop count all)) (let e : range - count ≡ range - length page = omega arith in e)
        ∙ sym (slice_get-behind page (drop count all) range (omega arith)) ∙ ap (λ l. slice_get l range) parted ∙ there) in
        let behind = found.behind in
        record {
          behind = omega arith;
          page = found.page;
          on_page = ap (λ l. slice_get l (pointer.block - first)) (within-step bound one tuples)
              ∙ ap (slice_get (page ∷ pages-within bound (drop count all))) (let e : pointer.block - first ≡ suc (pointer.block - (first + 1)) = omega arith in e)
              ∙ found.on_page;
          counted = found.counted;
          there = found.there;
        }

pub pointers_lead : (first range : ℕ) (tuples : List (List ℕ)) (pointer : RowPtr) (tuple : List ℕ)
    → slice_get (pointers_from first (page_counts (map length tuples))) range ≡ Some pointer → slice_get tuples range ≡ Some tuple
    → LeadsTo first (pages_of tuples) pointer tuple
unfolding pages_of page_counts pointers-within pages-within
pointers_lead first range tuples pointer tuple points there =
    let same : length (map length tuples) ≡ length tuples = length-map tuples length in
    subst (λ (n : ℕ). LeadsTo first (parts (counts_within n (map length tuples)) tuples) pointer tuple) (sym same)
    (lead-within (length tuples) first range tuples pointer tuple (omega arith)
    (ap (λ (n : ℕ). slice_get (pointers_from first (counts_within n (map length tuples))) range) (sym same) ∙ points) there)

-- ---- the least wide range

narrow-more : (kinds : List ColType) (range : RangeSummary) (ranges : List RangeSummary) → tuple_size kinds range ≤ 8152
    → All (λ r. tuple_size kinds r ≤ 8152) ranges → All (λ r. tuple_size kinds r ≤ 8152) (range ∷ ranges)
narrow-more kinds range ranges one rest zero d inside = one
narrow-more kinds range ranges one rest (suc k) d inside = rest k d (omega arith)

none-from : (kinds : List ColType) (at : ℕ) (ranges : List RangeSummary) → wide_from kinds at ranges ≡ None → All (λ r. tuple_size kinds r ≤ 8152) ranges
none-from kinds at [] none = λ k d inside. absurd (omega arith)
none-from kinds at (range ∷ ranges) none = go (nat_lt 8152 (tuple_size kinds range)) refl (none-from kinds (at + 1) ranges)
  where
    go : (t : Bool) → nat_lt 8152 (tuple_size kinds range) ≡ t → (wide_from kinds (at + 1) ranges ≡ None → All (λ r. tuple_size kinds r ≤ 8152) ranges)
        → All (λ r. tuple_size kinds r ≤ 8152) (range ∷ ranges)
    go true is rest = let found : ◌≡◌ {A = Option Wide} (Some (record { range = at; size = tuple_size kinds range })) None = rw is at none in cc
    go false is rest =
        narrow-more kinds range ranges (let small : tuple_size kinds range ≤ 8152 = grind (arith, nat_tests) in small)
        (rest (let behind : wide_from kinds (at + 1) ranges ≡ None = rw is at none in behind))

pub none_is_wide : (kinds : List ColType) (ranges : List RangeSummary) → wide_range kinds ranges ≡ None → All (λ r. tuple_size kinds r ≤ 8152) ranges
unfolding wide_range
none_is_wide kinds ranges none = none-from kinds 0 ranges none

record IsLeastFrom (kinds : List ColType) (at : ℕ) (ranges : List RangeSummary) (wide : Wide) : Type 0 where
  behind : at ≤ wide.range
  least : IsLeastWide kinds ranges (record { range = wide.range - at; size = wide.size })

least-from : (kinds : List ColType) (at : ℕ) (ranges : List RangeSummary) (wide : Wide) → wide_from kinds at ranges ≡ Some wide → IsLeastFrom kinds at ranges wide
least-from kinds at [] wide is = let none : ◌≡◌ {A = Option Wide} None (Some wide) = is in cc
least-from kinds at (range ∷ ranges) wide is = go (nat_lt 8152 (tuple_size kinds range)) refl (least-from kinds (at + 1) ranges wide)
  where
    go : (t : Bool) → nat_lt 8152 (tuple_size kinds range) ≡ t → (wide_from kinds (at + 1) ranges ≡ Some wide → IsLeastFrom kinds (at + 1) ranges wide)
        → IsLeastFrom kinds at (range ∷ ranges) wide
    go true over rest =
        let found : ◌≡◌ {A = Option Wide} (Some (record { range = at; size = tuple_size kinds range })) (Some wide) = rw over at is in
        let same : ◌≡◌ {A = Wide} (record { range = at; size = tuple_size kinds range }) wide = cc in
        let here : at ≡ wide.range = ap (λ (w : Wide). w.range) same in
        let size : tuple_size kinds range ≡ wide.size = ap (λ (w : Wide). w.size) same in
        let place : wide.range - at ≡ 0 = omega arith in
        let wider : 8152 < tuple_size kinds range = grind (arith, nat_tests) in
        record {
          behind = omega arith;
          least = record {
            range = range;
            there = ap (slice_get (range ∷ ranges)) place;
            size = sym size;
            wider = omega arith;
            before = subst (λ (n : ℕ). All (λ r. tuple_size kinds r ≤ 8152) (take n (range ∷ ranges))) (sym place) (λ k d no. absurd (omega arith));
          };
        }
    go false over rest =
        let behind_ : wide_from kinds (at + 1) ranges ≡ Some wide = rw over at is in
        let small : tuple_size kinds range ≤ 8152 = grind (arith, nat_tests) in
        let found = rest behind_ in
        let after = found.behind in
        let place : wide.range - at ≡ suc (wide.range - (at + 1)) = omega arith in
        record {
          behind = omega arith;
          least = record {
            range = found.least.range;
            there = ap (slice_get (range ∷ ranges)) place ∙ found.least.there;
            size = found.least.size;
            wider = found.least.wider;
            before = subst (λ (n : ℕ). All (λ r. tuple_size kinds r ≤ 8152) (take n (range ∷ ranges))) (sym place)
                (narrow-more kinds range (take (wide.range - (at + 1)) ranges) small found.least.before);
          };
        }

pub least_wide : (kinds : List ColType) (ranges : List RangeSummary) (wide : Wide) → wide_range kinds ranges ≡ Some wide → IsLeastWide kinds ranges wide
unfolding wide_range
least_wide kinds ranges wide is =
    let found = least-from kinds 0 ranges wide is in
    subst (λ (n : ℕ). IsLeastWide kinds ranges (record { range = n; size = wide.size })) (let e : wide.range - 0 ≡ wide.range = omega arith in e) found.least

-- ---- pages are filled

-- the tuple behind a page's has no room on it
filled-page : (all : List (List ℕ)) (next : List ℕ) (others : List (List ℕ)) → drop (page_count (map length all)) all ≡ next ∷ others
    → 8160 < taken (map length (take (page_count (map length all)) all ++ next ∷ []))
filled-page all next others is =
    let count : ℕ = page_count (map length all) in
    let left = length-drop count all in
    let some = ap length is in
    let many = length-map all (λ (t : List ℕ). length t) in
    let here : get_or all count next ≡ next =
    ap (λ (n : ℕ). get_or all n next) (let e : count ≡ count + 0 = omega arith in e) ∙ sym (get_or-drop count all 0 next) ∙ ap (λ l. get_or l 0 next) is in
    let inside : count < length all = omega arith in
    let one_more : take (count + 1) (map length all) ≡ map length (take count all ++ next ∷ []) =
    take-map (λ (t : List ℕ). length t) (count + 1) all
    ∙ ap (map (λ (t : List ℕ). length t)) (take_more all count next inside ∙ ap (λ t. take count all ++ t ∷ []) here) in
    subst (λ l. 8160 < taken l) one_more (count-filled (map length all) (omega arith))

filled-step : (all : List (List ℕ)) (rest : List (List ℕ)) → drop (page_count (map length all)) all ≡ rest → (bound : ℕ) → length rest ≤ bound
    → IsFilledBefore (pages-within bound rest) → IsFilledBefore (take (page_count (map length all)) all ∷ pages-within bound rest)
filled-step all [] is bound inside filled = subst (λ l. IsFilledBefore (take (page_count (map length all)) all ∷ l)) (sym (within-none bound)) tt
filled-step all (next ∷ others) is zero inside filled = absurd (omega arith)
filled-step all (next ∷ others) is (suc bound) inside filled =
    subst (λ l. IsFilledBefore (take (page_count (map length all)) all ∷ l)) (sym (within-step bound next others))
    (filled-page all next others is, subst IsFilledBefore (within-step bound next others) filled)

filled-within : (bound : ℕ) (tuples : List (List ℕ)) → length tuples ≤ bound → IsFilledBefore (pages-within bound tuples)
filled-within bound [] inside = subst IsFilledBefore (sym (within-none bound)) tt
filled-within zero (tuple ∷ tuples) inside = absurd (omega arith)
filled-within (suc bound) (tuple ∷ tuples) inside =
    let count : ℕ = page_count (map length (tuple ∷ tuples)) in
    subst IsFilledBefore (sym (within-step bound tuple tuples))
    (filled-step (tuple ∷ tuples) (drop count (tuple ∷ tuples)) refl bound (shorter bound tuple tuples inside)
    (filled-within bound (drop count (tuple ∷ tuples)) (shorter bound tuple tuples inside)))

pub pages_filled : (tuples : List (List ℕ)) → IsFilledBefore (pages_of tuples)
unfolding pages_of page_counts pages-within
pages_filled tuples =
    subst (λ (n : ℕ). IsFilledBefore (parts (counts_within n (map length tuples)) tuples)) (sym (length-map tuples length))
    (filled-within (length tuples) tuples (omega arith))

-- ---- what each tuple passes

passes-within : (P : List ℕ → Type 0) (bound : ℕ) (tuples : List (List ℕ)) → length tuples ≤ bound → All P tuples
    → All (λ page. All P page) (pages-within bound tuples)
passes-within P bound [] inside passes = subst (All (λ page. All P page)) (sym (within-none bound)) (λ k d none. absurd (omega arith))
passes-within P zero (tuple ∷ tuples) inside passes = absurd (omega arith)
passes-within P (suc bound) (tuple ∷ tuples) inside passes =
    let count : ℕ = page_count (map length (tuple ∷ tuples)) in
    subst (All (λ page. All P page)) (sym (within-step bound tuple tuples))
    (both (take count (tuple ∷ tuples)) (pages-within bound (drop count (tuple ∷ tuples))) (All-take P count (tuple ∷ tuples) passes)
    (passes-within P bound (drop count (tuple ∷ tuples)) (shorter bound tuple tuples inside) (All-drop P count (tuple ∷ tuples) passes)))
  where
    both : (page : List (List ℕ)) (pages : List (List (List ℕ))) → All P page → All (λ page. All P page) pages → All (λ page. All P page) (page ∷ pages)
    both page pages one rest zero d inside = one
    both page pages one rest (suc k) d inside = rest k d (omega arith)

-- each tuple of each page passes what all tuples do
pub each-passes : (P : List ℕ → Type 0) (tuples : List (List ℕ)) → All P tuples → All (λ page. All P page) (pages_of tuples)
unfolding pages_of page_counts pages-within
each-passes P tuples passes =
    subst (λ (n : ℕ). All (λ page. All P page) (parts (counts_within n (map length tuples)) tuples)) (sym (length-map tuples length))
    (passes-within P (length tuples) tuples (omega arith) passes)
