-- A page of the entry tree by its parts, and with another right link.
use Rattle.std.proofs.Common.{◌≡◌, ℕ, ◌-◌, List, ◌++◌, length, sym, ap, ◌∙◌, arith, length-append}
use Rattle.std.proofs.lemmas.List.{append_assoc}
use Rattle.pg_bytes.proofs.ItemPage.{length-line_pointers, length-page_header, length-placed_items}
use Rattle.pg_bytes.proofs.Writes.{length-number_bytes, length-zeros, written-middle}
use Rattle.pg_bytes.specs.ItemPage.{item_page, line_pointers, lower_at, placed_items, space_taken}
use Rattle.pg_bytes.specs.Numbers.{number_bytes}
use Rattle.pg_bytes.specs.PageLayout.{page_header}
use Rattle.pg_bytes.specs.Places.{written, zeros}
use Rattle.posting_tree.specs.Special.{special_space}
use Rattle.gin_file.specs.EntryTree.{entry_page}
use Rattle.gin_pack.specs.Pass.Placing.{HaveRoom}
use Rattle.gin_file.proofs.SpecialSpaces.{length-special_space}

-- what stands before the special space
abbrev pub front_of : List (List ℕ) → List ℕ
front_of tuples =
    page_header (lower_at tuples) (8184 - space_taken tuples) 8184
    ++ (line_pointers 8184 tuples
    ++ (zeros (8184 - space_taken tuples - lower_at tuples) ++ placed_items tuples))

pub page-parts : (special : List ℕ) (tuples : List (List ℕ)) → length special ≡ 8 → item_page special tuples ≡ front_of tuples ++ special
unfolding item_page
page-parts special tuples size =
    let whole : ℕ → List ℕ = λ (n : ℕ).
    page_header (lower_at tuples) (8192 - n - space_taken tuples) (8192 - n)
    ++ (line_pointers (8192 - n) tuples
    ++ (zeros (8192 - n - space_taken tuples - lower_at tuples) ++ (placed_items tuples ++ special))) in
    ap whole size ∙ simp append_assoc

pub length-front_of : (tuples : List (List ℕ)) → HaveRoom tuples → length (front_of tuples) ≡ 8184
length-front_of tuples room =
    let header : List ℕ = page_header (lower_at tuples) (8184 - space_taken tuples) 8184 in
    let hole : ℕ = 8184 - space_taken tuples - lower_at tuples in
    let h = length-page_header (lower_at tuples) (8184 - space_taken tuples) 8184 in
    let l = length-line_pointers 8184 tuples in
    let z = length-zeros hole in
    let p = length-placed_items tuples in
    let a = length-append header (line_pointers 8184 tuples ++ (zeros hole ++ placed_items tuples)) in
    let b = length-append (line_pointers 8184 tuples) (zeros hole ++ placed_items tuples) in
    let c = length-append (zeros hole) (placed_items tuples) in
    omega arith

pub length-entry_page : (flags right : ℕ) (tuples : List (List ℕ)) → HaveRoom tuples → length (entry_page flags right tuples) ≡ 8192
length-entry_page flags right tuples room =
    let s = length-special_space right 0 flags in
    let f = length-front_of tuples room in
    let a = length-append (front_of tuples) (special_space right 0 flags) in
    ap length (page-parts (special_space right 0 flags) tuples s) ∙ omega arith

-- a page linked to another
pub linked-page : (flags old right : ℕ) (tuples : List (List ℕ)) → HaveRoom tuples
    → written (number_bytes 4 right) 8184 (entry_page flags old tuples) ≡ entry_page flags right tuples
unfolding special_space
linked-page flags old right tuples room =
    let rest : List ℕ = number_bytes 2 0 ++ number_bytes 2 flags in
    ap (written (number_bytes 4 right) 8184) (page-parts (special_space old 0 flags) tuples (length-special_space old 0 flags))
    ∙ written-middle (number_bytes 4 right) (front_of tuples) (number_bytes 4 old) rest 8184 (length-front_of tuples room)
    (length-number_bytes 4 right ∙ sym (length-number_bytes 4 old))
    ∙ sym (page-parts (special_space right 0 flags) tuples (length-special_space right 0 flags))
