-- The writes of the meta page, over a page without items, and how many bytes its parts have.
use Rattle.std.proofs.Common.{◌≡◌, ℕ, Bool, List, [], ◌++◌, length, refl, sym, ap, ◌∙◌, arith, length-append}
use Rattle.std.proofs.lemmas.List.{append_assoc, append-nil}
use Rattle.pg_bytes.proofs.ItemPage.{length-page_header, written-lower}
use Rattle.pg_bytes.proofs.Writes.{length-number_bytes, length-zeros, written-middle, zeros-append}
use Rattle.pg_bytes.specs.Numbers.{number_bytes}
use Rattle.pg_bytes.specs.PageLayout.{empty_page, page_header}
use Rattle.pg_bytes.specs.Places.{written, zeros}
use Rattle.btree_page.specs.declared.meta.MetaPage.{MetaPage}
use Rattle.btree_page.specs.declared.special.SpecialSpace.{SpecialSpace}
use Rattle.btree_page.specs.Meta.{meta_fields, meta_page, page_of_meta}
use Rattle.btree_page.specs.SpecialSpace.{special_bytes, special_space}

pub length-special_bytes : (space : SpecialSpace) → length (special_bytes space) ≡ 16
unfolding special_bytes
length-special_bytes space = simp (length-append, length-number_bytes) refl

pub length-special_space : (prev next level flags : ℕ) → length (special_space prev next level flags) ≡ 16
length-special_space prev next level flags = length-special_bytes _

pub length-meta_fields : (meta : MetaPage) → length (meta_fields meta) ≡ 48
unfolding meta_fields
length-meta_fields meta = simp (length-append, length-number_bytes, length-zeros) refl

pub written-page_of_meta : (meta : MetaPage) (fields special : List ℕ) → fields ≡ meta_fields meta → special ≡ special_space 0 0 0 8
    → written special 8176 (written fields 24 (written (number_bytes 2 72) 12 (empty_page 16))) ≡ page_of_meta meta
unfolding empty_page page_of_meta
written-page_of_meta meta fields special are_fields is_special =
    let header : List ℕ = page_header 72 8176 8176 in
    let fields_end : length fields ≡ 48 = ap length are_fields ∙ length-meta_fields meta in
    let special_end : length special ≡ 16 = ap length is_special ∙ length-special_bytes _ in
    let header_end : length header ≡ 24 = length-page_header 72 8176 8176 in
    let front : List ℕ = header ++ (fields ++ zeros 8104) in
    let front_end : length front ≡ 8176 =
    let a = length-append header (fields ++ zeros 8104) in
    let b = length-append fields (zeros 8104) in
    let z = length-zeros 8104 in
    omega arith in
    let split : zeros 8168 ≡ zeros 48 ++ zeros 8120 = sym (zeros-append 48 8120) in
    let split' : zeros 8120 ≡ zeros 8104 ++ zeros 16 = sym (zeros-append 8104 16) in
    ap (λ (p : List ℕ). written special 8176 (written fields 24 p)) (written-lower 72 24 8176 8176 (zeros 8168))
    ∙ ap (λ (z : List ℕ). written special 8176 (written fields 24 (header ++ z))) split
    ∙ ap (written special 8176) (written-middle fields header (zeros 48) (zeros 8120) 24 header_end (fields_end ∙ sym (length-zeros 48)))
    ∙ ap (λ (z : List ℕ). written special 8176 (header ++ (fields ++ z))) split'
    ∙ ap (written special 8176) (let regroup : header ++ (fields ++ (zeros 8104 ++ zeros 16)) ≡ front ++ (zeros 16 ++ []) = simp (append_assoc, append-nil) refl in regroup)
    ∙ written-middle special front (zeros 16) [] 8176 front_end (special_end ∙ sym (length-zeros 16))
    ∙ simp (append_assoc, append-nil, are_fields, is_special) refl

pub length-page_of_meta : (meta : MetaPage) → length (page_of_meta meta) ≡ 8192
unfolding page_of_meta
length-page_of_meta meta = simp (length-append, length-page_header, length-meta_fields, length-zeros, length-special_bytes) refl

pub length-meta_page : (root level : ℕ) (equal : Bool) → length (meta_page root level equal) ≡ 8192
length-meta_page root level equal = length-page_of_meta _
