-- The writes of pages, over a page without items.
use Rattle.std.proofs.Common.{◌≡◌, ℕ, ◌+◌, ◌-◌, ◌*◌, ◌<◌, ◌≤◌, List, [], ◌∷◌, ◌++◌, length, take, get_or, refl, sym, ap, ◌∙◌, arith, length-append}
use Rattle.std.proofs.lemmas.List.{append_assoc, append-nil, length-take-le, take_more}
use Rattle.std.proofs.lemmas.Grind.{flat_map-append}
use Rattle.std.specs.List.{flat_map}
use Rattle.pg_bytes.proofs.ItemPage.{length-page_header, written-empty_page, written-lower}
use Rattle.pg_bytes.proofs.Writes.{length-number_bytes, length-zeros, written-middle, zeros-append}
use Rattle.pg_bytes.specs.Numbers.{number_bytes}
use Rattle.pg_bytes.specs.PageLayout.{empty_page, page_header}
use Rattle.pg_bytes.specs.Places.{written, zeros}
use Rattle.pg_bytes.specs.Pointers.{row_pointer_bytes}
use Rattle.pg_bytes.specs.declared.row_ptr.RowPtr.{RowPtr}
use Rattle.brin_summary.specs.Page.{meta_fields, meta_page, regular_page, revmap_page, special_space}
use Rattle.brin_summary.specs.declared.special.PageType.{PageType}
use Rattle.brin_summary.specs.declared.special.PageType.TheVariants.{Meta, Revmap, Regular}

pub length-special_space : (page_type : PageType) → length (special_space page_type) ≡ 8
unfolding special_space
length-special_space page_type = simp (length-append, length-zeros, length-number_bytes) refl

pub length-meta_fields : (pages last : ℕ) → length (meta_fields pages last) ≡ 16
unfolding meta_fields
length-meta_fields pages last = simp (length-append, length-number_bytes) refl

pub written-meta_page : (pages last : ℕ) (fields special : List ℕ) → fields ≡ meta_fields pages last → special ≡ special_space Meta
    → written special 8184 (written fields 24 (written (number_bytes 2 40) 12 (empty_page 8))) ≡ meta_page pages last
unfolding empty_page meta_page
written-meta_page pages last fields special are_fields is_special =
    let header : List ℕ = page_header 40 8184 8184 in
    let fields_end : length fields ≡ 16 = ap length are_fields ∙ length-meta_fields pages last in
    let special_end : length special ≡ 8 = ap length is_special ∙ length-special_space Meta in
    let header_end : length header ≡ 24 = length-page_header 40 8184 8184 in
    let front : List ℕ = header ++ (fields ++ zeros 8144) in
    let front_end : length front ≡ 8184 =
    let a = length-append header (fields ++ zeros 8144) in
    let b = length-append fields (zeros 8144) in
    let z = length-zeros 8144 in
    omega arith in
    let split : zeros 8168 ≡ zeros 16 ++ zeros 8152 = sym (zeros-append 16 8152) in
    let split' : zeros 8152 ≡ zeros 8144 ++ zeros 8 = sym (zeros-append 8144 8) in
    ap (λ (p : List ℕ). written special 8184 (written fields 24 p)) (written-lower 40 24 8184 8184 (zeros 8168))
    ∙ ap (λ (z : List ℕ). written special 8184 (written fields 24 (header ++ z))) split
    ∙ ap (written special 8184) (written-middle fields header (zeros 16) (zeros 8152) 24 header_end (fields_end ∙ sym (length-zeros 16)))
    ∙ ap (λ (z : List ℕ). written special 8184 (header ++ (fields ++ z))) split'
    ∙ ap (written special 8184) (let regroup : header ++ (fields ++ (zeros 8144 ++ zeros 8)) ≡ front ++ (zeros 8 ++ []) = simp (append_assoc, append-nil) refl in regroup)
    ∙ written-middle special front (zeros 8) [] 8184 front_end (special_end ∙ sym (length-zeros 8))
    ∙ simp (append_assoc, append-nil, are_fields, is_special) refl

pub length-meta_page : (pages last : ℕ) → length (meta_page pages last) ≡ 8192
unfolding meta_page
length-meta_page pages last = simp (length-append, length-page_header, length-meta_fields, length-zeros, length-special_space) refl

-- ---- regular pages

pub written-regular_page : (special : List ℕ) → special ≡ special_space Regular → written special 8184 (empty_page 8) ≡ regular_page []
unfolding regular_page
written-regular_page special is =
    ap (λ s. written s 8184 (empty_page 8)) is ∙ written-empty_page (special_space Regular) 8 (length-special_space Regular) (omega arith)

-- ---- the revmap

pub length-pointer : (pointer : RowPtr) → length (row_pointer_bytes pointer) ≡ 6
unfolding row_pointer_bytes
length-pointer pointer = simp (length-append, length-number_bytes) refl

pub length-pointers : (pointers : List RowPtr) → length (flat_map row_pointer_bytes pointers) ≡ 6 * length pointers
length-pointers [] = refl
length-pointers (pointer ∷ pointers) =
    let both = length-append (row_pointer_bytes pointer) (flat_map row_pointer_bytes pointers) in
    let one = length-pointer pointer in
    let rest = length-pointers pointers in
    omega arith

pub length-revmap_page : (pointers : List RowPtr) → length pointers ≤ 1360 → length (revmap_page pointers) ≡ 8192
unfolding revmap_page
length-revmap_page pointers few =
    let header : List ℕ = page_header 24 8184 8184 in
    let hole : List ℕ = zeros (8160 - 6 * length pointers) in
    let h = length-page_header 24 8184 8184 in
    let p = length-pointers pointers in
    let z = length-zeros (8160 - 6 * length pointers) in
    let s = length-special_space Revmap in
    let a = length-append header (flat_map row_pointer_bytes pointers ++ (hole ++ special_space Revmap)) in
    let b = length-append (flat_map row_pointer_bytes pointers) (hole ++ special_space Revmap) in
    let d = length-append hole (special_space Revmap) in
    omega arith

-- a page without pointers
pub written-revmap_page : (special : List ℕ) → special ≡ special_space Revmap → written special 8184 (empty_page 8) ≡ revmap_page []
unfolding empty_page revmap_page
written-revmap_page special is =
    let header : List ℕ = page_header 24 8184 8184 in
    let front : List ℕ = header ++ zeros 8160 in
    let front_end : length front ≡ 8184 =
    let a = length-append header (zeros 8160) in
    let h = length-page_header 24 8184 8184 in
    let z = length-zeros 8160 in
    omega arith in
    let split : header ++ zeros 8168 ≡ front ++ (zeros 8 ++ []) =
    ap (λ (z : List ℕ). header ++ z) (sym (zeros-append 8160 8)) ∙ simp (append_assoc, append-nil) refl in
    ap (λ s. written s 8184 (header ++ zeros 8168)) is
    ∙ ap (written (special_space Revmap) 8184) split
    ∙ written-middle (special_space Revmap) front (zeros 8) [] 8184 front_end (length-special_space Revmap ∙ sym (length-zeros 8))
    ∙ simp (append_assoc, append-nil) refl

-- one pointer more
pub written-pointer : (pointers : List RowPtr) (pointer : RowPtr) → length pointers < 1360
    → written (row_pointer_bytes pointer) (24 + 6 * length pointers) (revmap_page pointers) ≡ revmap_page (pointers ++ pointer ∷ [])
unfolding revmap_page
written-pointer pointers pointer room =
    let header : List ℕ = page_header 24 8184 8184 in
    let mine : List ℕ = flat_map row_pointer_bytes pointers in
    let front : List ℕ = header ++ mine in
    let left : ℕ = 8160 - 6 * length (pointers ++ pointer ∷ []) in
    let count = length-append pointers (pointer ∷ []) in
    let front_end : length front ≡ 24 + 6 * length pointers =
    let a = length-append header mine in
    let h = length-page_header 24 8184 8184 in
    let p = length-pointers pointers in
    omega arith in
    let hole : zeros (8160 - 6 * length pointers) ≡ zeros 6 ++ zeros left =
    ap zeros (let e : 8160 - 6 * length pointers ≡ 6 + left = omega arith in e) ∙ sym (zeros-append 6 left) in
    let split : header ++ (mine ++ (zeros (8160 - 6 * length pointers) ++ special_space Revmap))
    ≡ front ++ (zeros 6 ++ (zeros left ++ special_space Revmap)) =
    ap (λ (z : List ℕ). header ++ (mine ++ (z ++ special_space Revmap))) hole ∙ simp append_assoc refl in
    let more : flat_map row_pointer_bytes (pointers ++ pointer ∷ []) ≡ mine ++ row_pointer_bytes pointer =
    flat_map-append row_pointer_bytes pointers (pointer ∷ []) ∙ ap (λ l. mine ++ l) (append-nil (row_pointer_bytes pointer)) in
    ap (written (row_pointer_bytes pointer) (24 + 6 * length pointers)) split
    ∙ written-middle (row_pointer_bytes pointer) front (zeros 6) (zeros left ++ special_space Revmap) (24 + 6 * length pointers) front_end
    (length-pointer pointer ∙ sym (length-zeros 6))
    ∙ append_assoc header mine (row_pointer_bytes pointer ++ (zeros left ++ special_space Revmap))
    ∙ ap (λ l. header ++ l)
    (sym (append_assoc mine (row_pointer_bytes pointer) (zeros left ++ special_space Revmap))
    ∙ ap (λ l. l ++ (zeros left ++ special_space Revmap)) (sym more))

-- the next of several pointers
pub written-next : (pointers : List RowPtr) (at : ℕ) (d : RowPtr) → at < length pointers → length pointers ≤ 1360
    → written (row_pointer_bytes (get_or pointers at d)) (24 + 6 * at) (revmap_page (take at pointers)) ≡ revmap_page (take (at + 1) pointers)
written-next pointers at d inside few =
    let front : length (take at pointers) ≡ at = length-take-le at pointers (omega arith) in
    ap (λ (n : ℕ). written (row_pointer_bytes (get_or pointers at d)) (24 + 6 * n) (revmap_page (take at pointers))) (sym front)
    ∙ written-pointer (take at pointers) (get_or pointers at d) (omega arith)
    ∙ ap revmap_page (sym (take_more pointers at d inside))
