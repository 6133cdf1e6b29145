-- The writes of the meta page, over a page without items.
use Rattle.std.proofs.Common.{◌≡◌, ℕ, List, [], ◌++◌, length, refl, sym, ap, ◌∙◌, arith, length-append}
use Rattle.std.proofs.lemmas.List.{append_assoc, append-nil}
use Rattle.pg_bytes.proofs.ItemPage.{length-page_header, written-lower}
use Rattle.pg_bytes.proofs.Writes.{length-number_bytes, length-zeros, written-middle, zeros-append}
use Rattle.pg_bytes.specs.Numbers.{number_bytes}
use Rattle.pg_bytes.specs.PageLayout.{empty_page, page_header}
use Rattle.pg_bytes.specs.Places.{written, zeros}
use Rattle.posting_tree.specs.Levels.{no_link}
use Rattle.posting_tree.specs.Special.{meta_flag, special_space}
use Rattle.gin_file.proofs.SpecialSpaces.{length-special_space}
use Rattle.gin_file.specs.Meta.{meta_fields, meta_page}
use Rattle.gin_file.specs.declared.meta.Counts.{Counts}

pub length-meta_fields : (counts : Counts) → length (meta_fields counts) ≡ 56
unfolding meta_fields
length-meta_fields counts = simp (length-append, length-number_bytes, length-zeros) refl

pub written-meta_page : (counts : Counts) (fields special : List ℕ) → fields ≡ meta_fields counts → special ≡ special_space no_link 0 meta_flag
    → written special 8184 (written fields 24 (written (number_bytes 2 80) 12 (empty_page 8))) ≡ meta_page counts
unfolding empty_page meta_page
written-meta_page counts fields special are_fields is_special =
    let header : List ℕ = page_header 80 8184 8184 in
    let fields_end : length fields ≡ 56 = ap length are_fields ∙ length-meta_fields counts in
    let special_end : length special ≡ 8 = ap length is_special ∙ length-special_space no_link 0 meta_flag in
    let header_end : length header ≡ 24 = length-page_header 80 8184 8184 in
    let front : List ℕ = header ++ (fields ++ zeros 8104) in
    let front_end : length front ≡ 8184 =
    let a = length-append header (fields ++ zeros 8104) in
    let b = length-append fields (zeros 8104) in
    let z = length-zeros 8104 in
    omega arith in
    let split : zeros 8168 ≡ zeros 56 ++ zeros 8112 = sym (zeros-append 56 8112) in
    let split' : zeros 8112 ≡ zeros 8104 ++ zeros 8 = sym (zeros-append 8104 8) in
    ap (λ (p : List ℕ). written special 8184 (written fields 24 p)) (written-lower 80 24 8184 8184 (zeros 8168))
    ∙ ap (λ (z : List ℕ). written special 8184 (written fields 24 (header ++ z))) split
    ∙ ap (written special 8184) (written-middle fields header (zeros 56) (zeros 8112) 24 header_end (fields_end ∙ sym (length-zeros 56)))
    ∙ ap (λ (z : List ℕ). written special 8184 (header ++ (fields ++ z))) split'
    ∙ ap (written special 8184) (let regroup : header ++ (fields ++ (zeros 8104 ++ zeros 8)) ≡ front ++ (zeros 8 ++ []) = simp (append_assoc, append-nil) refl in regroup)
    ∙ written-middle special front (zeros 8) [] 8184 front_end (special_end ∙ sym (length-zeros 8))
    ∙ simp (append_assoc, append-nil, are_fields, is_special) refl

pub length-meta_page : (counts : Counts) → length (meta_page counts) ≡ 8192
unfolding meta_page
length-meta_page counts = simp (length-append, length-page_header, length-meta_fields, length-zeros, length-special_space) refl
