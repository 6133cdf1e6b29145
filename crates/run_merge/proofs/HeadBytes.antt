-- Order bytes are bytes, so that heads may decide.
use Rattle.std.proofs.Common.{ℕ, zero, suc, ◌<◌, true, false, if◌then◌else◌, List, [], ◌∷◌, ◌++◌, length, map, sym, subst, arith, slice_index_or, All}
use Rattle.std.specs.Int.{bytes_high_first}
use Rattle.std.proofs.lemmas.List.{get_or-map}
use Rattle.std.proofs.lemmas.List.Elements.{All-head, All-tail}
use Rattle.opclass.specs.declared.spec.SortPart.{SortPart}
use Rattle.opclass.specs.declared.value.KeyVal.{KeyVal}
use Rattle.opclass.specs.declared.value.KeyVal.TheVariants.{Nil, Num, Raw, Items}
use Rattle.opclass.specs.Norm.{escape, escaped, lifted, directed_bytes, null_byte, piece, norm_of, IsKeyValue}
use Rattle.opclass.proofs.Pieces.{AreBytes, AreBytes-high_first}
use Rattle.opclass.proofs.Fronts.{AreBytes-directed}
use Rattle.shared_tape.specs.declared.stored.Record.{Record}
use Rattle.shared_tape.specs.Stored.{order_bytes, pointer_bytes, IsStorable}

no_bytes : AreBytes []
no_bytes k = omega arith

one_byte : (x : ℕ) (xs : List ℕ) → x < 256 → AreBytes xs → AreBytes (x ∷ xs)
one_byte x xs p q zero = p
one_byte x xs p q (suc k) = q k

AreBytes-append : (xs ys : List ℕ) → AreBytes xs → AreBytes ys → AreBytes (xs ++ ys)
AreBytes-append [] ys p q = q
AreBytes-append (x ∷ xs) ys p q = one_byte x (xs ++ ys) (p 0) (AreBytes-append xs ys (λ k. p (suc k)) q)

AreBytes-escape : (x : ℕ) → x < 256 → AreBytes (escape x)
AreBytes-escape zero p = one_byte 0 (255 ∷ []) (omega arith) (one_byte 255 [] (omega arith) no_bytes)
AreBytes-escape (suc x) p = one_byte (suc x) [] p no_bytes

AreBytes-escaped : (xs : List ℕ) → All (λ byte. byte < 256) xs → AreBytes (escaped xs)
AreBytes-escaped [] p = one_byte 0 (0 ∷ []) (omega arith) (one_byte 0 [] (omega arith) no_bytes)
AreBytes-escaped (x ∷ xs) p =
    AreBytes-append (escape x) (escaped xs) (AreBytes-escape x (All-head (λ byte. byte < 256) x xs p))
    (AreBytes-escaped xs (All-tail (λ byte. byte < 256) x xs p))

AreBytes-null : (part : SortPart) → null_byte part < 256
AreBytes-null part = elim part.nulls_first as (λ b. (if b then 0 else 3) < 256)
    [ true ↦ omega arith | false ↦ omega arith ]

AreBytes-piece : (part : SortPart) (value : KeyVal) → IsKeyValue value → AreBytes (piece part value)
AreBytes-piece part Nil p = one_byte (null_byte part) [] (AreBytes-null part) no_bytes
AreBytes-piece part (Num number) p = one_byte 1 (directed_bytes part (bytes_high_first 8 (lifted number)))
    (omega arith) (AreBytes-directed part (bytes_high_first 8 (lifted number)) (AreBytes-high_first 8 (lifted number)))
AreBytes-piece part (Raw bytes) p = one_byte 2 (directed_bytes part (escaped bytes)) (omega arith)
    (AreBytes-directed part (escaped bytes) (AreBytes-escaped bytes p))
AreBytes-piece part (Items elements) p = absurd p

AreBytes-norm_of : (parts : List SortPart) (values : List KeyVal) → All IsKeyValue values
    → AreBytes (norm_of parts values)
AreBytes-norm_of [] values p = no_bytes
AreBytes-norm_of (part ∷ parts) [] p = no_bytes
AreBytes-norm_of (part ∷ parts) (value ∷ values) p =
    AreBytes-append (piece part value) (norm_of parts values) (AreBytes-piece part value
    (All-head IsKeyValue value values p)) (AreBytes-norm_of parts values (All-tail IsKeyValue value values p))

pub AreBytes-order_bytes : (order : List SortPart) (row : Record) → IsStorable order row
    → AreBytes (order_bytes order row)
unfolding order_bytes
AreBytes-order_bytes order row p =
    AreBytes-append (norm_of order row.keys) (pointer_bytes row.ptr) (AreBytes-norm_of order row.keys p.keys.each)
    (AreBytes-append (bytes_high_first 4 row.ptr.block) (bytes_high_first 2 row.ptr.offset)
    (AreBytes-high_first 4 row.ptr.block) (AreBytes-high_first 2 row.ptr.offset))

-- so they are at each place of a run
pub AreBytes-order_list : (order : List SortPart) (rows : List Record) (at : ℕ) → at < length rows
    → All (IsStorable order) rows
    → AreBytes (slice_index_or (map (order_bytes order) rows) at [])
AreBytes-order_list order [] at h all = absurd (omega arith)
AreBytes-order_list order (row ∷ rows) at h all =
    subst AreBytes (sym (get_or-map (order_bytes order) (row ∷ rows) at row [] h))
    (AreBytes-order_bytes order _ (all at row h))
