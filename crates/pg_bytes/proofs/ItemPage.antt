-- How a page of items meets the writes that add an item to it.
use Rattle.std.proofs.Common.{◌≡◌, ℕ, ◌+◌, ◌-◌, ◌*◌, ◌^◌, ◌<◌, ◌≤◌, List, [], ◌∷◌, ◌++◌, length, refl, sym, ap, ◌∙◌, arith, length-append}
use Rattle.std.proofs.lemmas.List.{append_assoc, append-nil, drop_at, length_push}
use Rattle.byteorder.specs.Numbers.{little_number-reads_back}
use Rattle.pg_bytes.specs.Numbers.{number_at, number_bytes}
use Rattle.pg_bytes.specs.Places.{written, zeros}
use Rattle.pg_bytes.specs.PageLayout.{empty_page, page_header, aligned, normal_word, with_item, lower_of, upper_of, lower_with, item_place, line_place}
use Rattle.pg_bytes.specs.ItemPage.{item_page, space_of, space_taken, line_pointers, placed_items, lower_at, upper_at}
use Rattle.pg_bytes.proofs.Writes.{length-zeros, zeros-append, length-number_bytes, written-middle}

-- a number behind a front
pub number_at-past : (width : ℕ) (front rest : List ℕ) (place : ℕ) → length front ≡ place → number_at width (front ++ rest) place ≡ number_at width rest 0
unfolding number_at
number_at-past width front rest place here = rw (drop_at front rest place here) refl

-- the number that was written
pub number_at-first : (width x : ℕ) (rest : List ℕ) → x < 256 ^ width → number_at width (number_bytes width x ++ rest) 0 ≡ x
unfolding number_at number_bytes
number_at-first width x rest fits = little_number-reads_back width x rest fits

pub length-page_header : (lower upper special : ℕ) → length (page_header lower upper special) ≡ 24
unfolding page_header
length-page_header lower upper special =
    simp (length-append, length-zeros, length-number_bytes) refl

-- the header's fields
pub lower_of-page_header : (lower upper special : ℕ) (rest : List ℕ) → lower < 2 ^ 16 → lower_of (page_header lower upper special ++ rest) ≡ lower
unfolding page_header
lower_of-page_header lower upper special rest fits =
    let after : List ℕ = number_bytes 2 upper ++ (number_bytes 2 special ++ (number_bytes 2 8196 ++ zeros 4)) in
    ap (λ (page : List ℕ). number_at 2 page 12) (append_assoc (zeros 12) (number_bytes 2 lower ++ after) rest)
    ∙ number_at-past 2 (zeros 12) ((number_bytes 2 lower ++ after) ++ rest) 12 (length-zeros 12)
    ∙ ap (λ (page : List ℕ). number_at 2 page 0) (append_assoc (number_bytes 2 lower) after rest)
    ∙ number_at-first 2 lower (after ++ rest) fits

pub upper_of-page_header : (lower upper special : ℕ) (rest : List ℕ) → upper < 2 ^ 16 → upper_of (page_header lower upper special ++ rest) ≡ upper
unfolding page_header
upper_of-page_header lower upper special rest fits =
    let after : List ℕ = number_bytes 2 special ++ (number_bytes 2 8196 ++ zeros 4) in
    let front : List ℕ = zeros 12 ++ number_bytes 2 lower in
    let here : length front ≡ 14 = length-append (zeros 12) (number_bytes 2 lower) ∙ simp (length-zeros, length-number_bytes) refl in
    let regroup : (zeros 12 ++ (number_bytes 2 lower ++ (number_bytes 2 upper ++ after))) ++ rest ≡ front ++ (number_bytes 2 upper ++ (after ++ rest)) = simp append_assoc in
    ap (λ (page : List ℕ). number_at 2 page 14) regroup
    ∙ number_at-past 2 front (number_bytes 2 upper ++ (after ++ rest)) 14 here
    ∙ number_at-first 2 upper (after ++ rest) fits

pub written-lower : (value lower upper special : ℕ) (rest : List ℕ)
    → written (number_bytes 2 value) 12 (page_header lower upper special ++ rest) ≡ page_header value upper special ++ rest
unfolding page_header
written-lower value lower upper special rest =
    let after : List ℕ = number_bytes 2 upper ++ (number_bytes 2 special ++ (number_bytes 2 8196 ++ zeros 4)) in
    let before : (zeros 12 ++ (number_bytes 2 lower ++ after)) ++ rest ≡ zeros 12 ++ (number_bytes 2 lower ++ (after ++ rest)) = simp append_assoc in
    let behind : zeros 12 ++ (number_bytes 2 value ++ (after ++ rest)) ≡ (zeros 12 ++ (number_bytes 2 value ++ after)) ++ rest = simp append_assoc in
    ap (written (number_bytes 2 value) 12) before
    ∙ written-middle (number_bytes 2 value) (zeros 12) (number_bytes 2 lower) (after ++ rest) 12 (length-zeros 12) (length-number_bytes 2 value ∙ sym (length-number_bytes 2 lower))
    ∙ behind

pub written-upper : (value lower upper special : ℕ) (rest : List ℕ)
    → written (number_bytes 2 value) 14 (page_header lower upper special ++ rest) ≡ page_header lower value special ++ rest
unfolding page_header
written-upper value lower upper special rest =
    let after : List ℕ = number_bytes 2 special ++ (number_bytes 2 8196 ++ zeros 4) in
    let front : List ℕ = zeros 12 ++ number_bytes 2 lower in
    let here : length front ≡ 14 = length-append (zeros 12) (number_bytes 2 lower) ∙ simp (length-zeros, length-number_bytes) refl in
    let before : (zeros 12 ++ (number_bytes 2 lower ++ (number_bytes 2 upper ++ after))) ++ rest ≡ front ++ (number_bytes 2 upper ++ (after ++ rest)) = simp append_assoc in
    let behind : front ++ (number_bytes 2 value ++ (after ++ rest)) ≡ (zeros 12 ++ (number_bytes 2 lower ++ (number_bytes 2 value ++ after))) ++ rest = simp append_assoc in
    ap (written (number_bytes 2 value) 14) before
    ∙ written-middle (number_bytes 2 value) front (number_bytes 2 upper) (after ++ rest) 14 here (length-number_bytes 2 value ∙ sym (length-number_bytes 2 upper))
    ∙ behind

-- an item takes its space
pub length-aligned : (item : List ℕ) → length (aligned item) ≡ space_of item
unfolding aligned
length-aligned item =
    let whole = length-append item (zeros (space_of item - length item)) in
    let pad = length-zeros (space_of item - length item) in
    omega arith

pub length-line_pointers : (end : ℕ) (items : List (List ℕ)) → length (line_pointers end items) ≡ 4 * length items
length-line_pointers end [] = refl
length-line_pointers end (item ∷ items) =
    let word : List ℕ = number_bytes 4 (normal_word (end - space_of item) (length item)) in
    let whole = length-append word (line_pointers (end - space_of item) items) in
    let first = length-number_bytes 4 (normal_word (end - space_of item) (length item)) in
    let rest = length-line_pointers (end - space_of item) items in
    omega arith

pub length-placed_items : (items : List (List ℕ)) → length (placed_items items) ≡ space_taken items
length-placed_items [] = refl
length-placed_items (item ∷ items) =
    let whole = length-append (placed_items items) (aligned item) in
    let first = length-aligned item in
    let rest = length-placed_items items in
    omega arith

-- one item more
pub line_pointers-push : (end : ℕ) (items : List (List ℕ)) (item : List ℕ)
    → line_pointers end (items ++ item ∷ [])
    ≡ line_pointers end items ++ number_bytes 4 (normal_word (end - space_taken items - space_of item) (length item))
line_pointers-push end [] item =
    let place : end - space_of item ≡ end - 0 - space_of item = omega arith in
    append-nil (number_bytes 4 (normal_word (end - space_of item) (length item)))
    ∙ ap (λ (n : ℕ). number_bytes 4 (normal_word n (length item))) place
line_pointers-push end (first ∷ items) item =
    let word : List ℕ = number_bytes 4 (normal_word (end - space_of first) (length first)) in
    let place : end - space_of first - space_taken items - space_of item ≡ end - (space_of first + space_taken items) - space_of item = omega arith in
    ap (λ (r : List ℕ). word ++ r) (line_pointers-push (end - space_of first) items item)
    ∙ ap (λ (n : ℕ). word ++ (line_pointers (end - space_of first) items ++ number_bytes 4 (normal_word n (length item)))) place
    ∙ sym (append_assoc word (line_pointers (end - space_of first) items) _)

pub placed_items-push : (items : List (List ℕ)) (item : List ℕ) → placed_items (items ++ item ∷ []) ≡ aligned item ++ placed_items items
placed_items-push [] item = sym (append-nil (aligned item))
placed_items-push (first ∷ items) item =
    ap (λ (r : List ℕ). r ++ aligned first) (placed_items-push items item) ∙ append_assoc (aligned item) (placed_items items) (aligned first)

pub space-push : (items : List (List ℕ)) (item : List ℕ) → space_taken (items ++ item ∷ []) ≡ space_taken items + space_of item
space-push [] item = omega arith
space-push (first ∷ items) item = let rest = space-push items item in omega arith

-- the four writes, over the parts of a page
added : (lower upper special space : ℕ) (lines items last word piece : List ℕ)
    → length lines + 24 ≡ lower → length word ≡ 4 → length piece ≡ space → lower + 4 + space ≤ upper
    → written (number_bytes 2 (lower + 4)) 12 (written word lower (written (number_bytes 2 (upper - space)) 14 (written piece (upper - space)
    (page_header lower upper special ++ (lines ++ (zeros (upper - lower) ++ (items ++ last)))))))
    ≡ page_header (lower + 4) (upper - space) special ++ ((lines ++ word) ++ (zeros (upper - space - (lower + 4)) ++ ((piece ++ items) ++ last)))
added lower upper special space lines items last word piece here four size fits =
    let header : List ℕ = page_header lower upper special in
    let gap : ℕ = upper - lower - space in
    let rest : List ℕ = items ++ last in
    let hole : zeros (upper - lower) ≡ zeros gap ++ zeros space =
    ap zeros (let e : upper - lower ≡ gap + space = omega arith in e) ∙ sym (zeros-append gap space) in
    let front : List ℕ = header ++ (lines ++ zeros gap) in
    let front_ends : length front ≡ upper - space =
    let h = length-page_header lower upper special in
    let l1 = length-append header (lines ++ zeros gap) in
    let l2 = length-append lines (zeros gap) in
    let l3 = length-zeros gap in
    omega arith in
    let split : header ++ (lines ++ (zeros (upper - lower) ++ rest)) ≡ front ++ (zeros space ++ rest) =
    ap (λ (z : List ℕ). header ++ (lines ++ (z ++ rest))) hole ∙ simp append_assoc in
    let one : written piece (upper - space) (header ++ (lines ++ (zeros (upper - lower) ++ rest))) ≡ header ++ (lines ++ (zeros gap ++ (piece ++ rest))) =
    ap (written piece (upper - space)) split
    ∙ written-middle piece front (zeros space) rest (upper - space) front_ends (size ∙ sym (length-zeros space))
    ∙ simp append_assoc in
    let header' : List ℕ = page_header lower (upper - space) special in
    let two = ap (written (number_bytes 2 (upper - space)) 14) one ∙ written-upper (upper - space) lower upper special (lines ++ (zeros gap ++ (piece ++ rest))) in
    let room : zeros gap ≡ zeros 4 ++ zeros (gap - 4) =
    ap zeros (let e : gap ≡ 4 + (gap - 4) = omega arith in e) ∙ sym (zeros-append 4 (gap - 4)) in
    let front' : List ℕ = header' ++ lines in
    let front'_ends : length front' ≡ lower =
    let h = length-page_header lower (upper - space) special in
    let l1 = length-append header' lines in
    omega arith in
    let split' : header' ++ (lines ++ (zeros gap ++ (piece ++ rest))) ≡ front' ++ (zeros 4 ++ (zeros (gap - 4) ++ (piece ++ rest))) =
    ap (λ (z : List ℕ). header' ++ (lines ++ (z ++ (piece ++ rest)))) room ∙ simp append_assoc in
    let three : written word lower (written (number_bytes 2 (upper - space)) 14 (written piece (upper - space) (header ++ (lines ++ (zeros (upper - lower) ++ rest)))))
    ≡ header' ++ (lines ++ (word ++ (zeros (gap - 4) ++ (piece ++ rest)))) =
    ap (written word lower) (two ∙ split')
    ∙ written-middle word front' (zeros 4) (zeros (gap - 4) ++ (piece ++ rest)) lower front'_ends (four ∙ sym (length-zeros 4))
    ∙ append_assoc header' lines (word ++ (zeros (gap - 4) ++ (piece ++ rest))) in
    let end : gap - 4 ≡ upper - space - (lower + 4) = omega arith in
    ap (written (number_bytes 2 (lower + 4)) 12) three
    ∙ written-lower (lower + 4) lower (upper - space) special (lines ++ (word ++ (zeros (gap - 4) ++ (piece ++ rest))))
    ∙ ap (λ (n : ℕ). page_header (lower + 4) (upper - space) special ++ (lines ++ (word ++ (zeros n ++ (piece ++ rest))))) end
    ∙ simp append_assoc

-- the page has its size, if its items fit
pub length-item_page : (special : List ℕ) (items : List (List ℕ)) → lower_at items ≤ upper_at special items → space_taken items + length special ≤ 8192
    → length (item_page special items) ≡ 8192
unfolding item_page
length-item_page special items fits small =
    let end : ℕ = 8192 - length special in
    let hole : ℕ = upper_at special items - lower_at items in
    let h = length-page_header (lower_at items) (upper_at special items) end in
    let l = length-line_pointers end items in
    let z = length-zeros hole in
    let p = length-placed_items items in
    let a1 = length-append (page_header (lower_at items) (upper_at special items) end) (line_pointers end items ++ (zeros hole ++ (placed_items items ++ special))) in
    let a2 = length-append (line_pointers end items) (zeros hole ++ (placed_items items ++ special)) in
    let a3 = length-append (zeros hole) (placed_items items ++ special) in
    let a4 = length-append (placed_items items) special in
    omega arith

pub lower_of-item_page : (special : List ℕ) (items : List (List ℕ)) → lower_at items < 2 ^ 16 → lower_of (item_page special items) ≡ lower_at items
unfolding item_page
lower_of-item_page special items fits = lower_of-page_header (lower_at items) (upper_at special items) (8192 - length special) _ fits

pub upper_of-item_page : (special : List ℕ) (items : List (List ℕ)) → upper_of (item_page special items) ≡ upper_at special items
unfolding item_page
upper_of-item_page special items = upper_of-page_header (lower_at items) (upper_at special items) (8192 - length special) _ (omega arith)

-- an item added under the next line pointer
pub with_item-item_page : (special : List ℕ) (items : List (List ℕ)) (item : List ℕ)
    → lower_at items + 4 + space_of item ≤ upper_at special items
    → with_item (length items + 1) item (item_page special items) ≡ item_page special (items ++ item ∷ [])
unfolding with_item item_page
with_item-item_page special items item fits =
    let page : List ℕ = item_page special items in
    let end : ℕ = 8192 - length special in
    let lower : ℕ = lower_at items in
    let upper : ℕ = upper_at special items in
    let space : ℕ = space_of item in
    let all : List (List ℕ) = items ++ item ∷ [] in
    let word : List ℕ = number_bytes 4 (normal_word (upper - space) (length item)) in
    let was_lower : lower_of page ≡ lower = lower_of-item_page special items (omega arith) in
    let was_upper : upper_of page ≡ upper = upper_of-item_page special items in
    let now_lower : lower_with (length items + 1) page ≡ lower + 4 = omega arith in
    let place : item_place item page ≡ upper - space = omega arith in
    let line : line_place (length items + 1) ≡ lower = omega arith in
    let lines_end : length (line_pointers end items) + 24 ≡ lower = let l = length-line_pointers end items in omega arith in
    let count : lower_at all ≡ lower + 4 = let l = length_push items item in omega arith in
    let top : upper_at special all ≡ upper - space = let l = space-push items item in omega arith in
    let four : length word ≡ 4 = length-number_bytes 4 (normal_word (upper - space) (length item)) in
    let writes : ℕ → ℕ → ℕ → List ℕ = λ (l p q : ℕ). written (number_bytes 2 l) 12 (written (number_bytes 4 (normal_word p (length item))) q (written (number_bytes 2 p) 14 (written (aligned item) p page))) in
    ap (λ (l : ℕ). writes l (item_place item page) (line_place (length items + 1))) now_lower
    ∙ ap (λ (p : ℕ). writes (lower + 4) p (line_place (length items + 1))) place
    ∙ ap (λ (q : ℕ). writes (lower + 4) (upper - space) q) line
    ∙ added lower upper end space (line_pointers end items) (placed_items items) special word (aligned item) lines_end four (length-aligned item) (omega arith)
    ∙ ap (λ (n : List ℕ). page_header (lower + 4) (upper - space) end ++ (n ++ (zeros (upper - space - (lower + 4)) ++ ((aligned item ++ placed_items items) ++ special)))) (sym (line_pointers-push end items item))
    ∙ ap (λ (n : List ℕ). page_header (lower + 4) (upper - space) end ++ (line_pointers end all ++ (zeros (upper - space - (lower + 4)) ++ (n ++ special)))) (sym (placed_items-push items item))
    ∙ ap (λ (l : ℕ). page_header l (upper - space) end ++ (line_pointers end all ++ (zeros (upper - space - l) ++ (placed_items all ++ special)))) (sym count)
    ∙ ap (λ (u : ℕ). page_header (lower_at all) u end ++ (line_pointers end all ++ (zeros (u - lower_at all) ++ (placed_items all ++ special)))) (sym top)

-- a page without items whose special space was written
pub written-empty_page : (special : List ℕ) (n : ℕ) → length special ≡ n → n ≤ 16 → written special (8192 - n) (empty_page n) ≡ item_page special []
unfolding empty_page item_page
written-empty_page special n size small =
    let header : List ℕ = page_header 24 (8192 - n) (8192 - n) in
    let gap : ℕ = 8168 - n in
    let hole : zeros 8168 ≡ zeros gap ++ zeros n = ap zeros (let e : 8168 ≡ gap + n = omega arith in e) ∙ sym (zeros-append gap n) in
    let front : List ℕ = header ++ zeros gap in
    let ends : length front ≡ 8192 - n =
    let h = length-page_header 24 (8192 - n) (8192 - n) in
    let l = length-append header (zeros gap) in
    let z = length-zeros gap in
    omega arith in
    let regroup : header ++ zeros 8168 ≡ front ++ (zeros n ++ []) =
    ap (λ (z : List ℕ). header ++ z) hole ∙ sym (append_assoc header (zeros gap) (zeros n)) ∙ ap (λ (z : List ℕ). front ++ z) (sym (append-nil (zeros n))) in
    let top : 8192 - n ≡ upper_at special [] = omega arith in
    let same : 8192 - n ≡ 8192 - length special = omega arith in
    let left : gap ≡ upper_at special [] - lower_at [] = omega arith in
    ap (written special (8192 - n)) regroup
    ∙ written-middle special front (zeros n) [] (8192 - n) ends (size ∙ sym (length-zeros n))
    ∙ ap (λ (r : List ℕ). front ++ r) (append-nil special)
    ∙ append_assoc header (zeros gap) special
    ∙ ap (λ (u : ℕ). page_header 24 u (8192 - n) ++ (zeros gap ++ special)) top
    ∙ ap (λ (e : ℕ). page_header 24 (upper_at special []) e ++ (zeros gap ++ special)) same
    ∙ ap (λ (z : ℕ). page_header 24 (upper_at special []) (8192 - length special) ++ (zeros z ++ special)) left
