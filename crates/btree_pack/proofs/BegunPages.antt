-- A page while its tuples are put, and with its high key.
use Rattle.std.proofs.Common.{◌≡◌, ℕ, ◌+◌, ◌-◌, ◌*◌, ◌<◌, ◌≤◌, ◌^◌, List, [], ◌∷◌, ◌++◌, length, sym, ap, ◌∙◌, arith, length-append}
use Rattle.std.proofs.lemmas.List.{append_assoc, append-nil}
use Rattle.pg_bytes.proofs.ItemPage.{length-aligned, length-line_pointers, length-page_header, line_pointers-push, lower_of-page_header, placed_items-push, space-push, upper_of-page_header, written-lower, written-upper}
use Rattle.pg_bytes.proofs.Writes.{length-number_bytes, length-zeros, written-middle, zeros-append}
use Rattle.pg_bytes.specs.ItemPage.{first_lowest_page, item_page, line_pointers, placed_items, space_of, upper_at}
use Rattle.pg_bytes.specs.Numbers.{number_bytes}
use Rattle.pg_bytes.specs.PageLayout.{aligned, empty_page, item_place, line_place, lower_of, lower_with, normal_word, page_header, upper_of, with_item}
use Rattle.pg_bytes.specs.Places.{written, zeros}
use Rattle.btree_pack.specs.Pass.Begun.{begun_page, lower_behind}

-- a page by its parts
abbrev pub parts : ℕ → ℕ → ℕ → List ℕ → List ℕ → List ℕ
parts lower upper special lines items = page_header lower upper special ++ (lines ++ (zeros (upper - lower) ++ items))

pub lower_of-begun_page : (special : List ℕ) (reserved : ℕ) (tuples : List (List ℕ)) → lower_behind reserved tuples < 2 ^ 16
    → lower_of (begun_page special reserved tuples) ≡ lower_behind reserved tuples
unfolding begun_page
lower_of-begun_page special reserved tuples fits = lower_of-page_header (lower_behind reserved tuples) (upper_at special tuples) (8192 - length special) _ fits

pub upper_of-begun_page : (special : List ℕ) (reserved : ℕ) (tuples : List (List ℕ)) → upper_of (begun_page special reserved tuples) ≡ upper_at special tuples
unfolding begun_page
upper_of-begun_page special reserved tuples = upper_of-page_header (lower_behind reserved tuples) (upper_at special tuples) (8192 - length special) _ (omega arith)

-- an item placed below the others
placed-item : (lower upper special space : ℕ) (lines items piece : List ℕ) → length lines + 24 ≡ lower → length piece ≡ space → lower + space ≤ upper
    → written (number_bytes 2 (upper - space)) 14 (written piece (upper - space) (parts lower upper special lines items))
    ≡ parts lower (upper - space) special lines (piece ++ items)
placed-item lower upper special space lines items piece here size fits =
    let header : List ℕ = page_header lower upper special in
    let gap : ℕ = upper - space - lower in
    let hole : zeros (upper - lower) ≡ zeros gap ++ zeros space =
    ap zeros (let e : upper - lower ≡ gap + space = omega arith in e) ∙ sym (zeros-append gap space) in
    let front : List ℕ = header ++ (lines ++ zeros gap) in
    let front_ends : length front ≡ upper - space =
    let h = length-page_header lower upper special in
    let l1 = length-append header (lines ++ zeros gap) in
    let l2 = length-append lines (zeros gap) in
    let l3 = length-zeros gap in
    omega arith in
    let split : header ++ (lines ++ (zeros (upper - lower) ++ items)) ≡ front ++ (zeros space ++ items) =
    ap (λ (z : List ℕ). header ++ (lines ++ (z ++ items))) hole ∙ simp append_assoc in
    let one : written piece (upper - space) (header ++ (lines ++ (zeros (upper - lower) ++ items))) ≡ header ++ (lines ++ (zeros gap ++ (piece ++ items))) =
    ap (written piece (upper - space)) split
    ∙ written-middle piece front (zeros space) items (upper - space) front_ends (size ∙ sym (length-zeros space))
    ∙ simp append_assoc in
    ap (written (number_bytes 2 (upper - space)) 14) one ∙ written-upper (upper - space) lower upper special (lines ++ (zeros gap ++ (piece ++ items)))

-- a line pointer behind the others
added-line : (lower upper special : ℕ) (lines items word : List ℕ) → length lines + 24 ≡ lower → length word ≡ 4 → lower + 4 ≤ upper
    → written (number_bytes 2 (lower + 4)) 12 (written word lower (parts lower upper special lines items))
    ≡ parts (lower + 4) upper special (lines ++ word) items
added-line lower upper special lines items word here four fits =
    let header : List ℕ = page_header lower upper special in
    let gap : ℕ = upper - (lower + 4) in
    let room : zeros (upper - lower) ≡ zeros 4 ++ zeros gap =
    ap zeros (let e : upper - lower ≡ 4 + gap = omega arith in e) ∙ sym (zeros-append 4 gap) in
    let front : List ℕ = header ++ lines in
    let front_ends : length front ≡ lower =
    let h = length-page_header lower upper special in
    let l1 = length-append header lines in
    omega arith in
    let split : header ++ (lines ++ (zeros (upper - lower) ++ items)) ≡ front ++ (zeros 4 ++ (zeros gap ++ items)) =
    ap (λ (z : List ℕ). header ++ (lines ++ (z ++ items))) room ∙ simp append_assoc in
    let one : written word lower (header ++ (lines ++ (zeros (upper - lower) ++ items))) ≡ header ++ (lines ++ (word ++ (zeros gap ++ items))) =
    ap (written word lower) split
    ∙ written-middle word front (zeros 4) (zeros gap ++ items) lower front_ends (four ∙ sym (length-zeros 4))
    ∙ append_assoc header lines (word ++ (zeros gap ++ items)) in
    ap (written (number_bytes 2 (lower + 4)) 12) one
    ∙ written-lower (lower + 4) lower upper special (lines ++ (word ++ (zeros gap ++ items)))
    ∙ ap (λ (l : List ℕ). page_header (lower + 4) upper special ++ l) (sym (append_assoc lines word (zeros gap ++ items)))

-- the first line pointer, which was left for it
first-line : (lower upper special : ℕ) (lines items word : List ℕ) → length word ≡ 4
    → written (number_bytes 2 lower) 12 (written word 24 (parts lower upper special (zeros 4 ++ lines) items))
    ≡ parts lower upper special (word ++ lines) items
first-line lower upper special lines items word four =
    let header : List ℕ = page_header lower upper special in
    let rest : List ℕ = lines ++ (zeros (upper - lower) ++ items) in
    ap (λ (l : List ℕ). written (number_bytes 2 lower) 12 (written word 24 (header ++ l))) (append_assoc (zeros 4) lines (zeros (upper - lower) ++ items))
    ∙ ap (written (number_bytes 2 lower) 12) (written-middle word header (zeros 4) rest 24 (length-page_header lower upper special) (four ∙ sym (length-zeros 4)))
    ∙ written-lower lower lower upper special (word ++ rest)
    ∙ ap (λ (l : List ℕ). header ++ l) (sym (append_assoc word lines (zeros (upper - lower) ++ items)))

-- one tuple more
pub with_item-begun_page : (special : List ℕ) (reserved : ℕ) (tuples : List (List ℕ)) (item : List ℕ)
    → lower_behind reserved tuples + 4 + space_of item ≤ upper_at special tuples
    → with_item (reserved + length tuples + 1) item (begun_page special reserved tuples) ≡ begun_page special reserved (tuples ++ item ∷ [])
unfolding with_item begun_page
with_item-begun_page special reserved tuples item fits =
    let page : List ℕ = begun_page special reserved tuples in
    let end : ℕ = 8192 - length special in
    let lower : ℕ = lower_behind reserved tuples in
    let upper : ℕ = upper_at special tuples in
    let space : ℕ = space_of item in
    let all : List (List ℕ) = tuples ++ item ∷ [] in
    let lines : List ℕ = zeros (4 * reserved) ++ line_pointers end tuples in
    let items : List ℕ = placed_items tuples ++ special in
    let word : List ℕ = number_bytes 4 (normal_word (upper - space) (length item)) in
    let was_lower : lower_of page ≡ lower = lower_of-begun_page special reserved tuples (omega arith) in
    let was_upper : upper_of page ≡ upper = upper_of-begun_page special reserved tuples in
    let now_lower : lower_with (reserved + length tuples + 1) page ≡ lower + 4 = omega arith in
    let place : item_place item page ≡ upper - space = omega arith in
    let line : line_place (reserved + length tuples + 1) ≡ lower = omega arith in
    let lines_end : length lines + 24 ≡ lower =
    let l = length-line_pointers end tuples in let z = length-zeros (4 * reserved) in let a = length-append (zeros (4 * reserved)) (line_pointers end tuples) in omega arith in
    let long : length all ≡ length tuples + 1 = length-append tuples (item ∷ []) in
    let count : lower + 4 ≡ lower_behind reserved all = omega arith in
    let top : upper - space ≡ upper_at special all = let l = space-push tuples item in omega arith in
    let four : length word ≡ 4 = length-number_bytes 4 (normal_word (upper - space) (length item)) in
    let writes : ℕ → ℕ → ℕ → List ℕ = λ (l p q : ℕ). written (number_bytes 2 l) 12 (written (number_bytes 4 (normal_word p (length item))) q (written (number_bytes 2 p) 14 (written (aligned item) p page))) in
    ap (λ (l : ℕ). writes l (item_place item page) (line_place (reserved + length tuples + 1))) now_lower
    ∙ ap (λ (p : ℕ). writes (lower + 4) p (line_place (reserved + length tuples + 1))) place
    ∙ ap (λ (q : ℕ). writes (lower + 4) (upper - space) q) line
    ∙ ap (λ (p : List ℕ). written (number_bytes 2 (lower + 4)) 12 (written word lower p))
    (placed-item lower upper end space lines items (aligned item) lines_end (length-aligned item) (omega arith))
    ∙ added-line lower (upper - space) end lines (aligned item ++ items) word lines_end four (omega arith)
    ∙ ap (parts (lower + 4) (upper - space) end (lines ++ word)) (sym (append_assoc (aligned item) (placed_items tuples) special))
    ∙ ap (λ (l : List ℕ). parts (lower + 4) (upper - space) end (lines ++ word) (l ++ special)) (sym (placed_items-push tuples item))
    ∙ ap (λ (l : List ℕ). parts (lower + 4) (upper - space) end l (placed_items all ++ special))
    (append_assoc (zeros (4 * reserved)) (line_pointers end tuples) word ∙ ap (λ (l : List ℕ). zeros (4 * reserved) ++ l) (sym (line_pointers-push end tuples item)))
    ∙ ap (λ (l : ℕ). parts l (upper - space) end (zeros (4 * reserved) ++ line_pointers end all) (placed_items all ++ special)) count
    ∙ ap (λ (u : ℕ). parts (lower_behind reserved all) u end (zeros (4 * reserved) ++ line_pointers end all) (placed_items all ++ special)) top

-- the high key under the line pointer that was left for it
pub with_item-high_key : (special : List ℕ) (tuples : List (List ℕ)) (high_key : List ℕ)
    → lower_behind 1 tuples + space_of high_key ≤ upper_at special tuples
    → with_item 1 high_key (begun_page special 1 tuples) ≡ first_lowest_page special high_key tuples
unfolding with_item begun_page first_lowest_page
with_item-high_key special tuples item fits =
    let page : List ℕ = begun_page special 1 tuples in
    let end : ℕ = 8192 - length special in
    let lower : ℕ = lower_behind 1 tuples in
    let upper : ℕ = upper_at special tuples in
    let space : ℕ = space_of item in
    let all : List (List ℕ) = item ∷ tuples in
    let lines : List ℕ = zeros 4 ++ line_pointers end tuples in
    let items : List ℕ = placed_items tuples ++ special in
    let word : List ℕ = number_bytes 4 (normal_word (upper - space) (length item)) in
    let was_lower : lower_of page ≡ lower = lower_of-begun_page special 1 tuples (omega arith) in
    let was_upper : upper_of page ≡ upper = upper_of-begun_page special 1 tuples in
    let now_lower : lower_with 1 page ≡ lower = omega arith in
    let place : item_place item page ≡ upper - space = omega arith in
    let lines_end : length lines + 24 ≡ lower =
    let l = length-line_pointers end tuples in let z = length-zeros 4 in let a = length-append (zeros 4) (line_pointers end tuples) in omega arith in
    let count : lower ≡ 24 + 4 * length all = omega arith in
    let top : upper - space ≡ upper_at special all = omega arith in
    let four : length word ≡ 4 = length-number_bytes 4 (normal_word (upper - space) (length item)) in
    let writes : ℕ → ℕ → List ℕ = λ (l p : ℕ). written (number_bytes 2 l) 12 (written (number_bytes 4 (normal_word p (length item))) 24 (written (number_bytes 2 p) 14 (written (aligned item) p page))) in
    let whole : ℕ → ℕ → List ℕ = λ (l u : ℕ). page_header l u end ++ ((number_bytes 4 (normal_word u (length item)) ++ line_pointers end tuples) ++ (zeros (u - l) ++ (aligned item ++ items))) in
    ap (λ (l : ℕ). writes l (item_place item page)) now_lower
    ∙ ap (λ (p : ℕ). writes lower p) place
    ∙ ap (λ (p : List ℕ). written (number_bytes 2 lower) 12 (written word 24 p))
    (placed-item lower upper end space lines items (aligned item) lines_end (length-aligned item) (omega arith))
    ∙ first-line lower (upper - space) end (line_pointers end tuples) (aligned item ++ items) word four
    ∙ ap (λ (l : ℕ). whole l (upper - space)) count
    ∙ ap (λ (u : ℕ). whole (24 + 4 * length all) u) top
    ∙ ap (λ (l : List ℕ). page_header (24 + 4 * length all) (upper_at special all) end ++ l)
    (append_assoc (number_bytes 4 (normal_word (upper_at special all) (length item))) (line_pointers end tuples) (zeros (upper_at special all - (24 + 4 * length all)) ++ (aligned item ++ items)))

-- a page whose line pointers left are none is a page of items
pub begun_page-items : (special : List ℕ) (tuples : List (List ℕ)) → begun_page special 0 tuples ≡ item_page special tuples
unfolding begun_page item_page zeros
begun_page-items special tuples =
    ap (λ (l : ℕ). page_header l (upper_at special tuples) (8192 - length special) ++ (line_pointers (8192 - length special) tuples
    ++ (zeros (upper_at special tuples - l) ++ (placed_items tuples ++ special))))
    (let e : lower_behind 0 tuples ≡ 24 + 4 * length tuples = omega arith in e)

-- the page before its first tuple
pub written-begun_page : (special : List ℕ) (reserved : ℕ) → length special ≡ 16 → reserved ≤ 1
    → written (number_bytes 2 (24 + 4 * reserved)) 12 (written special 8176 (empty_page 16)) ≡ begun_page special reserved []
unfolding empty_page begun_page
written-begun_page special reserved size few =
    let header : List ℕ = page_header 24 8176 8176 in
    let hole : zeros 8168 ≡ zeros 8152 ++ zeros 16 = sym (zeros-append 8152 16) in
    let front : List ℕ = header ++ zeros 8152 in
    let ends : length front ≡ 8176 =
    let h = length-page_header 24 8176 8176 in
    let l = length-append header (zeros 8152) in
    let z = length-zeros 8152 in
    omega arith in
    let split : header ++ zeros 8168 ≡ front ++ (zeros 16 ++ []) =
    ap (λ (z : List ℕ). header ++ z) hole ∙ sym (append_assoc header (zeros 8152) (zeros 16)) ∙ ap (λ (z : List ℕ). front ++ z) (sym (append-nil (zeros 16))) in
    let one : written special 8176 (header ++ zeros 8168) ≡ header ++ (zeros 8152 ++ special) =
    ap (written special 8176) split
    ∙ written-middle special front (zeros 16) [] 8176 ends (size ∙ sym (length-zeros 16))
    ∙ ap (λ (r : List ℕ). front ++ r) (append-nil special)
    ∙ append_assoc header (zeros 8152) special in
    let left : zeros 8152 ≡ zeros (4 * reserved) ++ zeros (8176 - (24 + 4 * reserved)) =
    ap zeros (let e : 8152 ≡ 4 * reserved + (8176 - (24 + 4 * reserved)) = omega arith in e) ∙ sym (zeros-append (4 * reserved) (8176 - (24 + 4 * reserved))) in
    let whole : ℕ → ℕ → ℕ → List ℕ = λ (l u e : ℕ). page_header l u e ++ ((zeros (4 * reserved) ++ []) ++ (zeros (u - l) ++ ([] ++ special))) in
    ap (written (number_bytes 2 (24 + 4 * reserved)) 12) one
    ∙ written-lower (24 + 4 * reserved) 24 8176 8176 (zeros 8152 ++ special)
    ∙ ap (λ (z : List ℕ). page_header (24 + 4 * reserved) 8176 8176 ++ (z ++ special)) left
    ∙ ap (λ (z : List ℕ). page_header (24 + 4 * reserved) 8176 8176 ++ z) (append_assoc (zeros (4 * reserved)) (zeros (8176 - (24 + 4 * reserved))) special)
    ∙ ap (λ (z : List ℕ). page_header (24 + 4 * reserved) 8176 8176 ++ (z ++ (zeros (8176 - (24 + 4 * reserved)) ++ special))) (sym (append-nil (zeros (4 * reserved))))
    ∙ ap (λ (e : ℕ). whole (24 + 4 * reserved) e e) (let e : 8176 ≡ 8192 - length special = omega arith in e)
    ∙ ap (λ (u : ℕ). whole (24 + 4 * reserved) u (8192 - length special)) (let e : 8192 - length special ≡ upper_at special [] = omega arith in e)
    ∙ ap (λ (l : ℕ). whole l (upper_at special []) (8192 - length special)) (let e : 24 + 4 * reserved ≡ lower_behind reserved [] = omega arith in e)
