-- The writes of a page of a posting tree, over a page without items.
use Rattle.std.proofs.Common.{◌≡◌, ℕ, ◌+◌, ◌-◌, ◌%◌, ◌≤◌, List, [], ◌++◌, length, refl, sym, ap, ◌∙◌, arith, length-append, Result, Ok, Err, subst}
use Rattle.std.specs.Prelude.{OnErr, OnOk}
use Rattle.std.proofs.lemmas.List.{append_assoc, append-nil}
use Rattle.pg_bytes.proofs.ItemPage.{length-page_header, written-lower}
use Rattle.pg_bytes.proofs.Writes.{length-number_bytes, length-zeros, written-middle, zeros-append}
use Rattle.pg_bytes.specs.Numbers.{number_bytes}
use Rattle.pg_bytes.specs.PageLayout.{empty_page, page_header, page_size}
use Rattle.pg_bytes.specs.Places.{written, zeros}
use Rattle.pg_bytes.specs.Pointers.{row_pointer_bytes}
use Rattle.pg_bytes.specs.declared.row_ptr.RowPtr.{RowPtr}
use Rattle.posting_tree.proofs.Segments.{length-row_pointer}
use Rattle.posting_tree.specs.PostingTree.{Extends, data_page}
use Rattle.posting_tree.specs.Special.{special_space}

pub length-special_space : (right maxoff flags : ℕ) → length (special_space right maxoff flags) ≡ 8
unfolding special_space
length-special_space right maxoff flags = simp (length-append, length-number_bytes) refl

pub written-data_page : (flags maxoff right lower : ℕ) (bound : RowPtr) (content bound_bytes special : List ℕ) → length content ≤ 8152
    → lower ≡ 32 + length content → bound_bytes ≡ row_pointer_bytes bound → special ≡ special_space right maxoff flags
    → written special 8184 (written content 32 (written bound_bytes 24 (written (number_bytes 2 lower) 12 (empty_page 8))))
    ≡ data_page flags maxoff right bound content
unfolding empty_page data_page
written-data_page flags maxoff right lower bound content bound_bytes special fits lower_is bound_is special_is =
    let header : List ℕ = page_header lower 8184 8184 in
    let n : ℕ = length content in
    let header_end : length header ≡ 24 = length-page_header lower 8184 8184 in
    let bound_end : length bound_bytes ≡ 6 = ap length bound_is ∙ length-row_pointer bound in
    let special_end : length special ≡ 8 = ap length special_is ∙ length-special_space right maxoff flags in
    let two = length-zeros 2 in
    let pad = length-zeros (8152 - n) in
    let front : List ℕ = header ++ (bound_bytes ++ zeros 2) in
    let front_end : length front ≡ 32 =
    length-append header (bound_bytes ++ zeros 2) ∙ ap (λ (k : ℕ). length header + k) (length-append bound_bytes (zeros 2)) ∙ omega arith in
    let whole : List ℕ = front ++ (content ++ zeros (8152 - n)) in
    let whole_end : length whole ≡ 8184 =
    length-append front (content ++ zeros (8152 - n)) ∙ ap (λ (k : ℕ). length front + k) (length-append content (zeros (8152 - n))) ∙ omega arith in
    let split : zeros 8168 ≡ zeros 6 ++ zeros 8162 = sym (zeros-append 6 8162) in
    let split2 : zeros 8162 ≡ zeros 2 ++ (zeros n ++ zeros (8160 - n)) =
    sym (zeros-append 2 8160)
    ∙ ap (λ (z : List ℕ). zeros 2 ++ z) (ap zeros (let e : 8160 ≡ n + (8160 - n) = omega arith in e) ∙ sym (zeros-append n (8160 - n))) in
    let split3 : zeros (8160 - n) ≡ zeros (8152 - n) ++ zeros 8 =
    ap zeros (let e : 8160 - n ≡ 8152 - n + 8 = omega arith in e) ∙ sym (zeros-append (8152 - n) 8) in
    ap (λ (p : List ℕ). written special 8184 (written content 32 (written bound_bytes 24 p))) (written-lower lower 24 8184 8184 (zeros 8168))
    ∙ ap (λ (z : List ℕ). written special 8184 (written content 32 (written bound_bytes 24 (header ++ z)))) split
    ∙ ap (λ (p : List ℕ). written special 8184 (written content 32 p))
    (written-middle bound_bytes header (zeros 6) (zeros 8162) 24 header_end (bound_end ∙ sym (length-zeros 6)))
    ∙ ap (λ (z : List ℕ). written special 8184 (written content 32 (header ++ (bound_bytes ++ z)))) split2
    ∙ ap (λ (p : List ℕ). written special 8184 (written content 32 p))
    (let e : header ++ (bound_bytes ++ (zeros 2 ++ (zeros n ++ zeros (8160 - n)))) ≡ front ++ (zeros n ++ zeros (8160 - n)) = simp append_assoc refl in e)
    ∙ ap (written special 8184) (written-middle content front (zeros n) (zeros (8160 - n)) 32 front_end (sym (length-zeros n)))
    ∙ ap (λ (z : List ℕ). written special 8184 (front ++ (content ++ z))) split3
    ∙ ap (written special 8184)
    (let e : front ++ (content ++ (zeros (8152 - n) ++ zeros 8)) ≡ whole ++ (zeros 8 ++ []) = simp (append_assoc, append-nil) refl in e)
    ∙ written-middle special whole (zeros 8) [] 8184 whole_end (special_end ∙ sym (length-zeros 8))
    ∙ simp (append_assoc, append-nil, lower_is, bound_is, special_is) refl

pub length-data_page : (flags maxoff right : ℕ) (bound : RowPtr) (content : List ℕ) → length content ≤ 8152
    → length (data_page flags maxoff right bound content) ≡ 8192
unfolding data_page
length-data_page flags maxoff right bound content fits =
    let pad = length-zeros (8152 - length content) in
    simp (length-append, length-page_header, length-row_pointer, length-zeros, length-special_space) (omega arith)

-- ---- images that grow

pub extends-itself : (old : List ℕ) → Extends old old
extends-itself old = record { more = []; kept = sym (append-nil old); whole = refl }

pub extends-page : (old new page : List ℕ) → new ≡ old ++ page → length page ≡ 8192 → Extends old new
extends-page old new page is size = record { more = page; kept = is; whole = rw size refl }

pub extends-more : (old middle new : List ℕ) → Extends old middle → Extends middle new → Extends old new
extends-more old middle new a b =
    let pages = a.whole in
    let pages2 = b.whole in
    record {
      more = a.more ++ b.more;
      kept = b.kept ∙ ap (λ (m : List ℕ). m ++ b.more) a.kept ∙ append_assoc old a.more b.more;
      whole = ap (λ (n : ℕ). n % page_size) (length-append a.more b.more) ∙ omega arith;
    }

-- a page was put, or nothing changed
pub extends-result : {T E : Type 0} (result : Result T E) (old new page : List ℕ) → OnOk result (new ≡ old ++ page) → OnErr result (new ≡ old)
    → length page ≡ 8192 → Extends old new
extends-result (Ok x) old new page ok err size = extends-page old new page ok size
extends-result (Err e) old new page ok err size = subst (Extends old) (sym err) (extends-itself old)
