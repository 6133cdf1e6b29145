-- Row pointers one behind the other.
use Rattle.std.proofs.Common.{◌≡◌, ℕ, suc, ◌+◌, ◌-◌, ◌*◌, ◌<◌, ◌≤◌, List, [], ◌∷◌, ◌++◌, length, drop, refl, sym, ap, ◌∙◌, arith, length-append, length-drop}
use Rattle.std.specs.Prelude.{All}
use Rattle.std.specs.List.{flat_map}
use Rattle.std.proofs.lemmas.List.{append_assoc, append-nil, drop_at}
use Rattle.std.proofs.lemmas.List.Concat.{flat_map-cons}
use Rattle.std.proofs.lemmas.List.Elements.{All-head, All-push, All-tail}
use Rattle.pg_bytes.specs.Pointers.{row_pointer_at, row_pointer_bytes}
use Rattle.pg_bytes.specs.declared.row_ptr.RowPtr.{RowPtr}
use Rattle.btree_item.specs.Item.{IsPointer}
use Rattle.btree_item.specs.Pass.{BeginsWithPointers, pointers_in}
use Rattle.btree_item.proofs.Sizes.{length-row_pointer, length-pointers}
use Rattle.btree_item.proofs.TupleFronts.{pointer-read}

-- pointers are read from their bytes
pub pointers-read : (ptrs : List RowPtr) (rest : List ℕ) → All IsPointer ptrs
    → pointers_in (length ptrs) (flat_map row_pointer_bytes ptrs ++ rest) ≡ ptrs
pointers-read [] rest fit = refl
pointers-read (ptr ∷ ptrs) rest fit =
    let one = All-head IsPointer ptr ptrs fit in
    let whole : flat_map row_pointer_bytes (ptr ∷ ptrs) ++ rest ≡ row_pointer_bytes ptr ++ (flat_map row_pointer_bytes ptrs ++ rest) =
    ap (λ (l : List ℕ). l ++ rest) (flat_map-cons row_pointer_bytes ptr ptrs) ∙ append_assoc (row_pointer_bytes ptr) (flat_map row_pointer_bytes ptrs) rest in
    let first : row_pointer_at (flat_map row_pointer_bytes (ptr ∷ ptrs) ++ rest) 0 ≡ ptr =
    ap (λ (l : List ℕ). row_pointer_at l 0) whole ∙ pointer-read ptr (flat_map row_pointer_bytes ptrs ++ rest) one.0 one.1 in
    let more : drop 6 (flat_map row_pointer_bytes (ptr ∷ ptrs) ++ rest) ≡ flat_map row_pointer_bytes ptrs ++ rest =
    ap (drop 6) whole ∙ drop_at (row_pointer_bytes ptr) (flat_map row_pointer_bytes ptrs ++ rest) 6 (length-row_pointer ptr) in
    ap (λ (p : RowPtr). p ∷ pointers_in (length ptrs) (drop 6 (flat_map row_pointer_bytes (ptr ∷ ptrs) ++ rest))) first
    ∙ ap (λ (l : List ℕ). ptr ∷ pointers_in (length ptrs) l) more
    ∙ ap (λ (l : List RowPtr). ptr ∷ l) (pointers-read ptrs rest (All-tail IsPointer ptr ptrs fit))

-- ---- the pass that reads them

-- some were read, and the others are read of what is left
pub record PointersRead (count read : ℕ) (bytes left : List ℕ) (ptrs : List RowPtr) : Type 0 where
  pub whole : pointers_in count bytes ≡ ptrs ++ pointers_in (count - read) left
  pub room : 6 * (count - read) ≤ length left
  pub many : length ptrs ≡ read
  pub within : read ≤ count
  pub fit : All IsPointer ptrs

pub read-next : (count read : ℕ) (bytes left cut : List ℕ) (ptrs : List RowPtr) (ptr : RowPtr) → read < count
    → PointersRead count read bytes left ptrs → ptr ≡ row_pointer_at left 0 → IsPointer ptr → cut ≡ drop 6 left
    → PointersRead count (read + 1) bytes cut (ptrs ++ ptr ∷ [])
read-next count read bytes left cut ptrs ptr more p is fits behind =
    let e : count - read ≡ suc (count - (read + 1)) = omega arith in
    let room = p.room in
    let long = length-drop 6 left in
    let cut_long = ap length behind in
    let many = p.many in
    let pushed = length-append ptrs (ptr ∷ []) in
    record {
      whole = p.whole
          ∙ ap (λ (n : ℕ). ptrs ++ pointers_in n left) e
          ∙ ap (λ (q : RowPtr). ptrs ++ q ∷ pointers_in (count - (read + 1)) (drop 6 left)) (sym is)
          ∙ ap (λ (l : List ℕ). ptrs ++ ptr ∷ pointers_in (count - (read + 1)) l) (sym behind)
          ∙ sym (append_assoc ptrs (ptr ∷ []) (pointers_in (count - (read + 1)) cut));
      room = omega arith;
      many = omega arith;
      within = omega arith;
      fit = All-push IsPointer ptrs ptr p.fit fits;
    }

pub all-read : (count : ℕ) (bytes left : List ℕ) (ptrs : List RowPtr) → PointersRead count count bytes left ptrs → ptrs ≡ pointers_in count bytes
all-read count bytes left ptrs p =
    let e : count - count ≡ 0 = omega arith in
    sym (p.whole ∙ ap (λ (n : ℕ). ptrs ++ pointers_in n left) e ∙ append-nil ptrs)

-- ---- what was read

pub begins-read : (count : ℕ) (bytes : List ℕ) (ptrs : List RowPtr) → length ptrs ≡ count → BeginsWithPointers bytes ptrs → pointers_in count bytes ≡ ptrs
begins-read count bytes ptrs many b =
    ap (λ (n : ℕ). pointers_in n bytes) (sym many) ∙ ap (pointers_in (length ptrs)) b.bytes_are ∙ pointers-read ptrs b.rest b.fit

pub begins-long : (bytes : List ℕ) (ptrs : List RowPtr) → BeginsWithPointers bytes ptrs → 6 * length ptrs ≤ length bytes
begins-long bytes ptrs b =
    let whole = ap length b.bytes_are ∙ length-append (flat_map row_pointer_bytes ptrs) b.rest in
    let pointers = length-pointers ptrs in
    omega arith
