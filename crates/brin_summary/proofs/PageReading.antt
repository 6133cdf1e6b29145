-- What is read of pages that were written.
use Rattle.std.proofs.Common.{◌≡◌, ℕ, zero, suc, ◌+◌, ◌-◌, ◌*◌, ◌/◌, ◌%◌, ◌^◌, ◌<◌, ◌≤◌, List, [], ◌∷◌, ◌++◌, length, Some, slice_get, refl, sym, ap, ◌∙◌, arith, length-append}
use Rattle.std.proofs.lemmas.List.{append_assoc, append-nil}
use Rattle.std.specs.List.{flat_map}
use Rattle.pg_bytes.proofs.ItemPage.{length-line_pointers, length-page_header, length-placed_items, lower_of-page_header, number_at-first, number_at-past}
use Rattle.pg_bytes.proofs.Writes.{length-number_bytes, length-zeros, zeros-append}
use Rattle.pg_bytes.specs.ItemPage.{item_page, line_pointers, lower_at, placed_items, space_taken, upper_at}
use Rattle.pg_bytes.specs.Numbers.{number_at, number_bytes}
use Rattle.pg_bytes.specs.PageLayout.{page_header}
use Rattle.pg_bytes.specs.Places.{zeros}
use Rattle.pg_bytes.specs.Pointers.{row_pointer_at, row_pointer_bytes}
use Rattle.pg_bytes.specs.declared.row_ptr.RowPtr.{RowPtr}
use Rattle.brin_summary.proofs.PageWrites.{length-meta_fields, length-pointer, length-pointers, length-special_space}
use Rattle.brin_summary.specs.Laws.{EntriesAreReadBack, MetaIsReadBack, PagesHaveTheirTypes}
use Rattle.brin_summary.specs.Page.{HasType, meta_fields, meta_page, regular_page, revmap_page, special_space, type_number}
use Rattle.brin_summary.specs.declared.special.PageType.{PageType}
use Rattle.brin_summary.specs.declared.special.PageType.TheVariants.{Meta, Revmap, Regular}

-- a number between two parts
pub number-between : (width x : ℕ) (front rest : List ℕ) (place : ℕ) → length front ≡ place → x < 256 ^ width
    → number_at width (front ++ (number_bytes width x ++ rest)) place ≡ x
number-between width x front rest place here fits = number_at-past width front (number_bytes width x ++ rest) place here ∙ number_at-first width x rest fits

-- ---- the special space

type-fits : (page_type : PageType) → type_number page_type < 256 ^ 2
type-fits Meta = omega arith
type-fits Revmap = omega arith
type-fits Regular = omega arith

type-behind : (page_type : PageType) (front : List ℕ) → length front ≡ 8184 → HasType page_type (front ++ special_space page_type)
unfolding special_space
type-behind page_type front here =
    let a = length-append front (zeros 6) in
    let z = length-zeros 6 in
    let split : front ++ (zeros 6 ++ number_bytes 2 (type_number page_type)) ≡ (front ++ zeros 6) ++ (number_bytes 2 (type_number page_type) ++ []) = simp (append_assoc, append-nil) refl in
    ap (λ (p : List ℕ). number_at 2 p 8190) split
    ∙ number-between 2 (type_number page_type) (front ++ zeros 6) [] 8190 (omega arith) (type-fits page_type)

zero-bytes : zeros 2 ≡ number_bytes 2 0
unfolding zeros number_bytes
zero-bytes = refl

flags-behind : (page_type : PageType) (front : List ℕ) → length front ≡ 8184 → number_at 2 (front ++ special_space page_type) 8188 ≡ 0
unfolding special_space
flags-behind page_type front here =
    let a = length-append front (zeros 4) in
    let z = length-zeros 4 in
    let two : zeros 2 ≡ number_bytes 2 0 = zero-bytes in
    let split : front ++ (zeros 6 ++ number_bytes 2 (type_number page_type)) ≡ (front ++ zeros 4) ++ (number_bytes 2 0 ++ number_bytes 2 (type_number page_type)) =
    ap (λ (z : List ℕ). front ++ (z ++ number_bytes 2 (type_number page_type))) (sym (zeros-append 4 2) ∙ ap (λ (z : List ℕ). zeros 4 ++ z) two)
    ∙ simp append_assoc refl in
    ap (λ (p : List ℕ). number_at 2 p 8188) split
    ∙ number-between 2 0 (front ++ zeros 4) (number_bytes 2 (type_number page_type)) 8188 (omega arith) (omega arith)

-- ---- the meta page

meta_front : ℕ → ℕ → List ℕ
meta_front pages last = page_header 40 8184 8184 ++ (meta_fields pages last ++ zeros 8144)

meta-parts : (pages last : ℕ) → meta_page pages last ≡ meta_front pages last ++ special_space Meta
unfolding meta_page meta_front
meta-parts pages last = simp append_assoc refl

length-meta_front : (pages last : ℕ) → length (meta_front pages last) ≡ 8184
unfolding meta_front
length-meta_front pages last = simp (length-append, length-page_header, length-meta_fields, length-zeros) refl

-- what stands behind the header: four numbers
pub record Fields (pages last : ℕ) (page : List ℕ) : Type 0 where
  pub rest : List ℕ
  pub is : page ≡ page_header 40 8184 8184
      ++ (number_bytes 4 0xA8109CFA ++ (number_bytes 4 1 ++ (number_bytes 4 pages ++ (number_bytes 4 last ++ rest))))

fields : (pages last : ℕ) → Fields pages last (meta_page pages last)
unfolding meta_page meta_fields
fields pages last = record { rest = zeros 8144 ++ special_space Meta; is = simp append_assoc refl }

pub meta_back : MetaIsReadBack
meta_back pages last pages_fit last_fits =
    let f = fields pages last in
    let header : List ℕ = page_header 40 8184 8184 in
    let magic : List ℕ = number_bytes 4 0xA8109CFA in
    let version : List ℕ = number_bytes 4 1 in
    let third : List ℕ = number_bytes 4 pages in
    let fourth : List ℕ = number_bytes 4 last in
    let h = length-page_header 40 8184 8184 in
    let four = length-number_bytes 4 0xA8109CFA in
    let one = length-number_bytes 4 1 in
    let p = length-number_bytes 4 pages in
    let a = length-append header magic in
    let b = length-append (header ++ magic) version in
    let d = length-append ((header ++ magic) ++ version) third in
    let at_version : header ++ (magic ++ (version ++ (third ++ (fourth ++ f.rest)))) ≡ (header ++ magic) ++ (version ++ (third ++ (fourth ++ f.rest))) = simp append_assoc refl in
    let at_pages : header ++ (magic ++ (version ++ (third ++ (fourth ++ f.rest)))) ≡ ((header ++ magic) ++ version) ++ (third ++ (fourth ++ f.rest)) = simp append_assoc refl in
    let at_last : header ++ (magic ++ (version ++ (third ++ (fourth ++ f.rest)))) ≡ (((header ++ magic) ++ version) ++ third) ++ (fourth ++ f.rest) = simp append_assoc refl in
    record {
      page_type = ap (λ (p : List ℕ). number_at 2 p 8190) (meta-parts pages last) ∙ type-behind Meta (meta_front pages last) (length-meta_front pages last);
      flags = ap (λ (p : List ℕ). number_at 2 p 8188) (meta-parts pages last) ∙ flags-behind Meta (meta_front pages last) (length-meta_front pages last);
      lower = ap (λ (p : List ℕ). number_at 2 p 12) f.is ∙ lower_of-page_header 40 8184 8184 _ (omega arith);
      magic = ap (λ (p : List ℕ). number_at 4 p 24) f.is ∙ number-between 4 0xA8109CFA header _ 24 h (omega arith);
      version = ap (λ (p : List ℕ). number_at 4 p 28) (f.is ∙ at_version) ∙ number-between 4 1 (header ++ magic) _ 28 (omega arith) (omega arith);
      pages_per_range = ap (λ (p : List ℕ). number_at 4 p 32) (f.is ∙ at_pages) ∙ number-between 4 pages ((header ++ magic) ++ version) _ 32 (omega arith) (omega arith);
      last_revmap = ap (λ (p : List ℕ). number_at 4 p 36) (f.is ∙ at_last) ∙ number-between 4 last (((header ++ magic) ++ version) ++ third) _ 36 (omega arith) (omega arith);
    }

-- ---- the types

revmap-type : (pointers : List RowPtr) → length pointers ≤ 1360 → HasType Revmap (revmap_page pointers)
unfolding revmap_page
revmap-type pointers few =
    let header : List ℕ = page_header 24 8184 8184 in
    let mine : List ℕ = flat_map row_pointer_bytes pointers in
    let hole : List ℕ = zeros (8160 - 6 * length pointers) in
    let front : List ℕ = header ++ (mine ++ hole) in
    let h = length-page_header 24 8184 8184 in
    let p = length-pointers pointers in
    let z = length-zeros (8160 - 6 * length pointers) in
    let a = length-append header (mine ++ hole) in
    let b = length-append mine hole in
    let split : header ++ (mine ++ (hole ++ special_space Revmap)) ≡ front ++ special_space Revmap = simp append_assoc refl in
    ap (λ (p : List ℕ). number_at 2 p 8190) split ∙ type-behind Revmap front (omega arith)

regular-type : (tuples : List (List ℕ)) → lower_at tuples + space_taken tuples ≤ 8184 → HasType Regular (regular_page tuples)
unfolding regular_page item_page
regular-type tuples fits =
    let special : List ℕ = special_space Regular in
    let s = length-special_space Regular in
    let header : List ℕ = page_header (lower_at tuples) (upper_at special tuples) (8192 - length special) in
    let lines : List ℕ = line_pointers (8192 - length special) tuples in
    let hole : List ℕ = zeros (upper_at special tuples - lower_at tuples) in
    let front : List ℕ = header ++ (lines ++ (hole ++ placed_items tuples)) in
    let h = length-page_header (lower_at tuples) (upper_at special tuples) (8192 - length special) in
    let l = length-line_pointers (8192 - length special) tuples in
    let z = length-zeros (upper_at special tuples - lower_at tuples) in
    let i = length-placed_items tuples in
    let a = length-append header (lines ++ (hole ++ placed_items tuples)) in
    let b = length-append lines (hole ++ placed_items tuples) in
    let d = length-append hole (placed_items tuples) in
    let split : header ++ (lines ++ (hole ++ (placed_items tuples ++ special))) ≡ front ++ special = simp append_assoc refl in
    ap (λ (p : List ℕ). number_at 2 p 8190) split ∙ type-behind Regular front (omega arith)

pub their_types : PagesHaveTheirTypes
their_types = record {
  meta = λ pages last. ap (λ (p : List ℕ). number_at 2 p 8190) (meta-parts pages last) ∙ type-behind Meta (meta_front pages last) (length-meta_front pages last);
  revmap = revmap-type;
  regular = regular-type;
}

-- ---- the revmap

-- six bytes of a pointer behind a front
pointer-behind : (pointer : RowPtr) (front rest : List ℕ) (place : ℕ) → length front ≡ place → pointer.block < 2 ^ 32 → pointer.offset < 2 ^ 16
    → row_pointer_at (front ++ (row_pointer_bytes pointer ++ rest)) place ≡ pointer
unfolding row_pointer_bytes
pointer-behind pointer front rest place here block offset =
    let high : List ℕ = number_bytes 2 (pointer.block / 2 ^ 16) in
    let low : List ℕ = number_bytes 2 (pointer.block % 2 ^ 16) in
    let last : List ℕ = number_bytes 2 pointer.offset in
    let bytes : List ℕ = front ++ ((high ++ (low ++ last)) ++ rest) in
    let two = length-number_bytes 2 (pointer.block / 2 ^ 16) in
    let two' = length-number_bytes 2 (pointer.block % 2 ^ 16) in
    let a = length-append front high in
    let b = length-append (front ++ high) low in
    let first : bytes ≡ front ++ (high ++ (low ++ (last ++ rest))) = simp append_assoc refl in
    let second : bytes ≡ (front ++ high) ++ (low ++ (last ++ rest)) = simp append_assoc refl in
    let third : bytes ≡ ((front ++ high) ++ low) ++ (last ++ rest) = simp append_assoc refl in
    let one : number_at 2 bytes place ≡ pointer.block / 2 ^ 16 =
    ap (λ (b : List ℕ). number_at 2 b place) first ∙ number-between 2 (pointer.block / 2 ^ 16) front _ place here (omega arith) in
    let other : number_at 2 bytes (place + 2) ≡ pointer.block % 2 ^ 16 =
    ap (λ (b : List ℕ). number_at 2 b (place + 2)) second ∙ number-between 2 (pointer.block % 2 ^ 16) (front ++ high) _ (place + 2) (omega arith) (omega arith) in
    let line : number_at 2 bytes (place + 4) ≡ pointer.offset =
    ap (λ (b : List ℕ). number_at 2 b (place + 4)) third ∙ number-between 2 pointer.offset ((front ++ high) ++ low) _ (place + 4) (omega arith) offset in
    let whole : number_at 2 bytes place * 2 ^ 16 + number_at 2 bytes (place + 2) ≡ pointer.block = omega arith in
    ap (λ (n : ℕ). let p : RowPtr = record { block = n; offset = number_at 2 bytes (place + 4) } in p) whole
    ∙ ap (λ (n : ℕ). let p : RowPtr = record { block = pointer.block; offset = n } in p) line

-- a pointer among others
among : (pointers : List RowPtr) (entry : ℕ) (pointer : RowPtr) (front rest : List ℕ) (place : ℕ) → length front + 6 * entry ≡ place
    → slice_get pointers entry ≡ Some pointer → pointer.block < 2 ^ 32 → pointer.offset < 2 ^ 16
    → row_pointer_at (front ++ (flat_map row_pointer_bytes pointers ++ rest)) place ≡ pointer
among [] entry pointer front rest place here there block offset = absurd (cc)
among (first ∷ pointers) zero pointer front rest place here there block offset =
    let is : first ≡ pointer = cc in
    let split : (row_pointer_bytes first ++ flat_map row_pointer_bytes pointers) ++ rest ≡ row_pointer_bytes pointer ++ (flat_map row_pointer_bytes pointers ++ rest) =
    append_assoc (row_pointer_bytes first) (flat_map row_pointer_bytes pointers) rest ∙ ap (λ (p : RowPtr). row_pointer_bytes p ++ (flat_map row_pointer_bytes pointers ++ rest)) is in
    ap (λ (b : List ℕ). row_pointer_at (front ++ b) place) split
    ∙ pointer-behind pointer front (flat_map row_pointer_bytes pointers ++ rest) place (omega arith) block offset
among (first ∷ pointers) (suc entry) pointer front rest place here there block offset =
    let mine : List ℕ = row_pointer_bytes first in
    let six = length-pointer first in
    let a = length-append front mine in
    let split : front ++ ((mine ++ flat_map row_pointer_bytes pointers) ++ rest) ≡ (front ++ mine) ++ (flat_map row_pointer_bytes pointers ++ rest) = simp append_assoc refl in
    ap (λ (b : List ℕ). row_pointer_at b place) split
    ∙ among pointers entry pointer (front ++ mine) rest place (omega arith) there block offset

no_pointer : RowPtr
no_pointer = record { block = 0; offset = 0 }

no-pointer-bytes : row_pointer_bytes no_pointer ≡ zeros 6
unfolding row_pointer_bytes no_pointer number_bytes zeros
no-pointer-bytes = refl

entry-there : (pointers : List RowPtr) (entry : ℕ) (pointer : RowPtr) → slice_get pointers entry ≡ Some pointer → pointer.block < 2 ^ 32 → pointer.offset < 2 ^ 16
    → row_pointer_at (revmap_page pointers) (24 + 6 * entry) ≡ pointer
unfolding revmap_page
entry-there pointers entry pointer there block offset =
    let h = length-page_header 24 8184 8184 in
    among pointers entry pointer (page_header 24 8184 8184) (zeros (8160 - 6 * length pointers) ++ special_space Revmap) (24 + 6 * entry) (omega arith) there block offset

entry-behind : (pointers : List RowPtr) (entry : ℕ) → length pointers ≤ entry → entry < 1360
    → row_pointer_at (revmap_page pointers) (24 + 6 * entry) ≡ record { block = 0; offset = 0 }
unfolding revmap_page no_pointer
entry-behind pointers entry behind inside =
    let header : List ℕ = page_header 24 8184 8184 in
    let mine : List ℕ = flat_map row_pointer_bytes pointers in
    let before : ℕ = 6 * entry - 6 * length pointers in
    let after : ℕ = 8160 - 6 * entry - 6 in
    let hole : zeros (8160 - 6 * length pointers) ≡ zeros before ++ (row_pointer_bytes no_pointer ++ zeros after) =
    ap zeros (let e : 8160 - 6 * length pointers ≡ before + (6 + after) = omega arith in e)
    ∙ sym (zeros-append before (6 + after)) ∙ ap (λ (z : List ℕ). zeros before ++ z) (sym (zeros-append 6 after) ∙ ap (λ (z : List ℕ). z ++ zeros after) (sym no-pointer-bytes)) in
    let front : List ℕ = header ++ (mine ++ zeros before) in
    let h = length-page_header 24 8184 8184 in
    let p = length-pointers pointers in
    let z = length-zeros before in
    let a = length-append header (mine ++ zeros before) in
    let b = length-append mine (zeros before) in
    let split : header ++ (mine ++ ((zeros before ++ (row_pointer_bytes no_pointer ++ zeros after)) ++ special_space Revmap))
    ≡ front ++ (row_pointer_bytes no_pointer ++ (zeros after ++ special_space Revmap)) = simp append_assoc refl in
    ap (λ (z : List ℕ). row_pointer_at (header ++ (mine ++ (z ++ special_space Revmap))) (24 + 6 * entry)) hole
    ∙ ap (λ (b : List ℕ). row_pointer_at b (24 + 6 * entry)) split
    ∙ pointer-behind no_pointer front (zeros after ++ special_space Revmap) (24 + 6 * entry) (omega arith) (omega arith) (omega arith)

pub entries_back : EntriesAreReadBack
entries_back = record {
  there = λ pointers entry pointer few there block offset. entry-there pointers entry pointer there block offset;
  behind = entry-behind;
}
