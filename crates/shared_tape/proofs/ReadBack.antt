-- What was stored is read back: values, row pointers and whole records.
use Rattle.std.proofs.Common.{◌≡◌, ◌≢◌, ℕ, zero, suc, ◌-◌, ◌^◌, ◌<◌, ◌≤◌, ◌==◌, if◌then◌else◌, Bool, true, false, ℤ, pos, negsuc, List, [], ◌∷◌, ◌++◌, length, take, drop, refl, sym, ap, ◌∙◌, arith, append_assoc, append-nil, length-append}
use Rattle.std.specs.Prelude.{All, FitsSigned}
use Rattle.std.specs.Int.{w64, bytes_high_first}
use Rattle.std.specs.List.{flat_map}
use Rattle.std.proofs.lemmas.Int.{ints}
use Rattle.std.proofs.lemmas.List.{take_at, drop_at}
use Rattle.std.proofs.lemmas.List.Elements.{All-head, All-tail}
use Rattle.std.proofs.lemmas.Bool.Decides.{nat_tests}
use Rattle.byteorder.specs.Endian.{big_number}
use Rattle.byteorder.specs.Numbers.{length-bytes_high_first, big_number-reads_back}
use Rattle.pg_bytes.specs.declared.row_ptr.RowPtr.{RowPtr}
use Rattle.opclass.specs.declared.spec.SortPart.{SortPart}
use Rattle.opclass.specs.declared.value.KeyVal.{KeyVal}
use Rattle.opclass.specs.declared.value.KeyVal.TheVariants.{Nil, Num, Raw, Items}
use Rattle.opclass.specs.Order.{unsaid}
use Rattle.opclass.specs.Norm.{lifted, escaped, turned, directed_bytes, piece, norm_of, IsKeyValue}
use Rattle.opclass.specs.Pass.{marked, zero_of}
use Rattle.opclass.proofs.Pieces.{AreBytes, AreBytes-from_all, AreBytes-high_first, reads_back}
use Rattle.opclass.proofs.Fronts.{length-directed_bytes}
use Rattle.shared_tape.specs.declared.stored.Record.{Record}
use Rattle.shared_tape.specs.Stored.{pointer_bytes, order_bytes, extra_bytes, IsPointer, IsStorable}
use Rattle.shared_tape.specs.Reading.{lowered, with_first, up_to_end, number_in, raw_in, value_in, values_in, all_values_in, pointer_in, record_of}

-- ---- numbers

lowered-lifted : (z : ℤ) → FitsSigned w64 z → lowered (lifted z) ≡ z
lowered-lifted (pos n) fits = omega (arith, ints)
lowered-lifted (negsuc n) fits = omega (arith, ints, fits.sfits)

lifted-fits : (z : ℤ) → FitsSigned w64 z → lifted z < 256 ^ 8
lifted-fits (pos n) fits = omega (arith, ints, fits.sfits)
lifted-fits (negsuc n) fits = omega (arith, ints, fits.sfits)

turned-turned : (xs : List ℕ) → AreBytes xs → turned (turned xs) ≡ xs
turned-turned [] h = refl
turned-turned (x ∷ xs) h =
    let byte : 255 - (255 - x) ≡ x = omega (arith, h 0) in
    λ i. byte i ∷ turned-turned xs (λ k. h (suc k)) i

directed-directed : (part : SortPart) (xs : List ℕ) → AreBytes xs → directed_bytes part (directed_bytes part xs) ≡ xs
directed-directed part xs h =
    elim part.descending as (λ d. (if d then turned (if d then turned xs else xs) else (if d then turned xs else xs)) ≡ xs)
    [ true ↦ turned-turned xs h | false ↦ refl ]

number_in-front : (part : SortPart) (xs behind : List ℕ) (z : ℤ) → length xs ≡ 8 → AreBytes xs → big_number 8 xs ≡ lifted z → FitsSigned w64 z
    → number_in part (directed_bytes part xs ++ behind) ≡ (Num z, behind)
number_in-front part xs behind z size are number fits =
    let written : length (directed_bytes part xs) ≡ 8 = length-directed_bytes part xs ∙ size in
    let read : lowered (big_number 8 (directed_bytes part (take 8 (directed_bytes part xs ++ behind)))) ≡ z =
    ap (λ (ys : List ℕ). lowered (big_number 8 (directed_bytes part ys))) (take_at (directed_bytes part xs) behind 8 written)
    ∙ ap (λ (ys : List ℕ). lowered (big_number 8 ys)) (directed-directed part xs are)
    ∙ ap lowered number
    ∙ lowered-lifted z fits in
    λ i. (Num (read i), drop_at (directed_bytes part xs) behind 8 written i)

number_in-piece : (part : SortPart) (z : ℤ) (behind : List ℕ) → FitsSigned w64 z
    → number_in part (directed_bytes part (bytes_high_first 8 (lifted z)) ++ behind) ≡ (Num z, behind)
number_in-piece part z behind fits =
    number_in-front part (bytes_high_first 8 (lifted z)) behind z (length-bytes_high_first 8 (lifted z)) (AreBytes-high_first 8 (lifted z))
    (reads_back (lifted z) (lifted-fits z fits)) fits

-- ---- bytes with their end

pub test-same : (a : ℕ) → (a == a) ≡ true
test-same a = grind (arith, nat_tests)

test-is : (a b : ℕ) → (a == b) ≡ true → a ≡ b
test-is a b e = grind (arith, nat_tests)

pub test-other : (a b : ℕ) → a ≢ b → (a == b) ≡ false
test-other a b h = grind (arith, nat_tests)

other_mark : (mark : ℕ) → (255 - mark == mark) ≡ false
other_mark mark = test-other (255 - mark) mark (λ e. omega arith)

marked-mark : (mark byte : ℕ) (inside : List ℕ) → (byte == mark) ≡ true → marked mark (byte ∷ inside) ≡ mark ∷ (255 - mark) ∷ marked mark inside
marked-mark mark byte inside e = ap (λ (t : Bool). if t then mark ∷ (255 - mark) ∷ marked mark inside else byte ∷ marked mark inside) e

marked-byte : (mark byte : ℕ) (inside : List ℕ) → (byte == mark) ≡ false → marked mark (byte ∷ inside) ≡ byte ∷ marked mark inside
marked-byte mark byte inside e = ap (λ (t : Bool). if t then mark ∷ (255 - mark) ∷ marked mark inside else byte ∷ marked mark inside) e

-- what is read at a byte, once it is known whether it is the mark
pub at_mark : (mark byte : ℕ) (bytes : List ℕ) → (byte == mark) ≡ true → up_to_end mark false (byte ∷ bytes) ≡ up_to_end mark true bytes
at_mark mark byte bytes e = ap (λ (t : Bool). if t then up_to_end mark true bytes else with_first byte (up_to_end mark false bytes)) e

pub at_byte : (mark byte : ℕ) (bytes : List ℕ) → (byte == mark) ≡ false → up_to_end mark false (byte ∷ bytes) ≡ with_first byte (up_to_end mark false bytes)
at_byte mark byte bytes e = ap (λ (t : Bool). if t then up_to_end mark true bytes else with_first byte (up_to_end mark false bytes)) e

pub at_end : (mark : ℕ) (bytes : List ℕ) → up_to_end mark true (mark ∷ bytes) ≡ ([], bytes)
at_end mark bytes = ap (λ (t : Bool). if t then ([], bytes) else with_first mark (up_to_end mark false bytes)) (test-same mark)

at_escape : (mark : ℕ) (bytes : List ℕ) → up_to_end mark true ((255 - mark) ∷ bytes) ≡ with_first mark (up_to_end mark false bytes)
at_escape mark bytes = ap (λ (t : Bool). if t then ([], bytes) else with_first mark (up_to_end mark false bytes)) (other_mark mark)

up_to_end-marked : (mark : ℕ) (inside behind : List ℕ) → up_to_end mark false (marked mark inside ++ behind) ≡ (inside, behind)
up_to_end-marked mark [] behind = at_mark mark mark (mark ∷ behind) (test-same mark) ∙ at_end mark behind
up_to_end-marked mark (byte ∷ inside) behind = by_test (byte == mark) refl (up_to_end-marked mark inside behind)
  where
    by_test : (t : Bool) → (byte == mark) ≡ t → up_to_end mark false (marked mark inside ++ behind) ≡ (inside, behind)
        → up_to_end mark false (marked mark (byte ∷ inside) ++ behind) ≡ (byte ∷ inside, behind)
    by_test true test rest =
        ap (λ (xs : List ℕ). up_to_end mark false (xs ++ behind)) (marked-mark mark byte inside test)
        ∙ at_mark mark mark ((255 - mark) ∷ (marked mark inside ++ behind)) (test-same mark)
        ∙ at_escape mark (marked mark inside ++ behind)
        ∙ ap (with_first mark) rest
        ∙ ap (λ (b : ℕ). (b ∷ inside, behind)) (sym (test-is byte mark test))
    by_test false test rest =
        ap (λ (xs : List ℕ). up_to_end mark false (xs ++ behind)) (marked-byte mark byte inside test)
        ∙ at_byte mark byte (marked mark inside ++ behind) test
        ∙ ap (with_first byte) rest

escaped-marked : (xs : List ℕ) → escaped xs ≡ marked 0 xs
escaped-marked [] = refl
escaped-marked (zero ∷ xs) = ap (λ (rest : List ℕ). 0 ∷ 255 ∷ rest) (escaped-marked xs)
escaped-marked (suc x ∷ xs) =
    ap (λ (rest : List ℕ). suc x ∷ rest) (escaped-marked xs) ∙ sym (marked-byte 0 (suc x) xs (test-other (suc x) 0 (λ e. omega arith)))

turned-escaped : (xs : List ℕ) → AreBytes xs → turned (escaped xs) ≡ marked 255 (turned xs)
turned-escaped [] h = refl
turned-escaped (zero ∷ xs) h = ap (λ (rest : List ℕ). 255 ∷ 0 ∷ rest) (turned-escaped xs (λ k. h (suc k)))
turned-escaped (suc x ∷ xs) h =
    ap (λ (rest : List ℕ). (255 - suc x) ∷ rest) (turned-escaped xs (λ k. h (suc k)))
    ∙ sym (marked-byte 255 (255 - suc x) (turned xs) (test-other (255 - suc x) 255 (λ e. omega arith)))

directed-escaped : (part : SortPart) (xs : List ℕ) → AreBytes xs → directed_bytes part (escaped xs) ≡ marked (zero_of part) (directed_bytes part xs)
directed-escaped part xs h =
    elim part.descending as (λ d. (if d then turned (escaped xs) else escaped xs) ≡ marked (if d then 255 else 0) (if d then turned xs else xs))
    [ true ↦ turned-escaped xs h | false ↦ escaped-marked xs ]

raw_in-piece : (part : SortPart) (xs behind : List ℕ) → AreBytes xs → raw_in part (directed_bytes part (escaped xs) ++ behind) ≡ (Raw xs, behind)
raw_in-piece part xs behind are =
    ap (λ (ys : List ℕ). raw_in part (ys ++ behind)) (directed-escaped part xs are)
    ∙ ap (λ (read : List ℕ × List ℕ). (Raw (directed_bytes part read.0), read.1)) (up_to_end-marked (zero_of part) (directed_bytes part xs) behind)
    ∙ ap (λ (ys : List ℕ). (Raw ys, behind)) (directed-directed part xs are)

-- ---- values

pub value_in-piece : (part : SortPart) (value : KeyVal) (behind : List ℕ) → IsKeyValue value → value_in part (piece part value ++ behind) ≡ (value, behind)
value_in-piece part Nil behind is =
    elim part.nulls_first as (λ first. value_in part ((if first then 0 else 3) ∷ behind) ≡ (Nil, behind)) [ true ↦ refl | false ↦ refl ]
value_in-piece part (Num z) behind is = number_in-piece part z behind is
value_in-piece part (Raw xs) behind is = raw_in-piece part xs behind (AreBytes-from_all xs is)
value_in-piece part (Items elements) behind is = absurd is

pub values_in-norm : (parts : List SortPart) (values : List KeyVal) (behind : List ℕ) → length parts ≡ length values → All IsKeyValue values
    → values_in parts (norm_of parts values ++ behind) ≡ (values, behind)
values_in-norm [] [] behind same are = refl
values_in-norm [] (value ∷ values) behind same are = absurd (omega arith)
values_in-norm (part ∷ parts) [] behind same are = absurd (omega arith)
values_in-norm (part ∷ parts) (value ∷ values) behind same are =
    ap (values_in (part ∷ parts)) (append_assoc (piece part value) (norm_of parts values) behind)
    ∙ ap (λ (first : KeyVal × List ℕ). (first.0 ∷ (values_in parts first.1).0, (values_in parts first.1).1))
    (value_in-piece part value (norm_of parts values ++ behind) (All-head IsKeyValue value values are))
    ∙ ap (λ (others : List KeyVal × List ℕ). (value ∷ others.0, others.1))
    (values_in-norm parts values behind (omega arith) (All-tail IsKeyValue value values are))

pub some_piece : (part : SortPart) (value : KeyVal) → IsKeyValue value → 1 ≤ length (piece part value)
some_piece part Nil is = omega arith
some_piece part (Num z) is = omega arith
some_piece part (Raw xs) is = omega arith
some_piece part (Items elements) is = absurd is

all_values_in-step : (most : ℕ) (value : KeyVal) (behind : List ℕ) → IsKeyValue value
    → all_values_in (suc most) (piece unsaid value ++ behind) ≡ value ∷ all_values_in most behind
all_values_in-step most Nil behind is = refl
all_values_in-step most (Num z) behind is =
    ap (λ (first : KeyVal × List ℕ). first.0 ∷ all_values_in most first.1) (value_in-piece unsaid (Num z) behind is)
all_values_in-step most (Raw xs) behind is =
    ap (λ (first : KeyVal × List ℕ). first.0 ∷ all_values_in most first.1) (value_in-piece unsaid (Raw xs) behind is)
all_values_in-step most (Items elements) behind is = absurd is

pub all_values_in-pieces : (most : ℕ) (values : List KeyVal) → All IsKeyValue values → length (flat_map (piece unsaid) values) ≤ most
    → all_values_in most (flat_map (piece unsaid) values) ≡ values
all_values_in-pieces zero [] are fits = refl
all_values_in-pieces (suc most) [] are fits = refl
all_values_in-pieces zero (value ∷ values) are fits =
    absurd (omega (arith, some_piece unsaid value (All-head IsKeyValue value values are), length-append (piece unsaid value) (flat_map (piece unsaid) values)))
all_values_in-pieces (suc most) (value ∷ values) are fits =
    all_values_in-step most value (flat_map (piece unsaid) values) (All-head IsKeyValue value values are)
    ∙ ap (λ (others : List KeyVal). value ∷ others)
    (all_values_in-pieces most values (All-tail IsKeyValue value values are)
    (omega (arith, some_piece unsaid value (All-head IsKeyValue value values are), length-append (piece unsaid value) (flat_map (piece unsaid) values))))

-- ---- records

pointer_in-bytes : (ptr : RowPtr) → IsPointer ptr → pointer_in (pointer_bytes ptr) ≡ ptr
pointer_in-bytes ptr fits =
    let high : big_number 4 (pointer_bytes ptr) ≡ ptr.block = big_number-reads_back 4 ptr.block (bytes_high_first 2 ptr.offset) fits.0 in
    let behind : drop 4 (pointer_bytes ptr) ≡ bytes_high_first 2 ptr.offset ++ [] =
    drop_at (bytes_high_first 4 ptr.block) (bytes_high_first 2 ptr.offset) 4 (length-bytes_high_first 4 ptr.block)
    ∙ sym (append-nil (bytes_high_first 2 ptr.offset)) in
    let low : big_number 2 (drop 4 (pointer_bytes ptr)) ≡ ptr.offset = ap (big_number 2) behind ∙ big_number-reads_back 2 ptr.offset [] fits.1 in
    λ i. record { block = high i; offset = low i }

-- a record is read of its two lists of bytes
pub record_of-bytes : (order : List SortPart) (row : Record) → IsStorable order row → record_of order (order_bytes order row) (extra_bytes row) ≡ row
unfolding order_bytes extra_bytes record_of
record_of-bytes order row is =
    let read : values_in order (norm_of order row.keys ++ pointer_bytes row.ptr) ≡ (row.keys, pointer_bytes row.ptr) =
    values_in-norm order row.keys (pointer_bytes row.ptr) is.keys.columns is.keys.each in
    let extra : all_values_in (length (flat_map (piece unsaid) row.extra)) (flat_map (piece unsaid) row.extra) ≡ row.extra =
    all_values_in-pieces (length (flat_map (piece unsaid) row.extra)) row.extra is.extra (omega arith) in
    let ptr : pointer_in (values_in order (norm_of order row.keys ++ pointer_bytes row.ptr)).1 ≡ row.ptr =
    ap (λ (both : List KeyVal × List ℕ). pointer_in both.1) read ∙ pointer_in-bytes row.ptr is.pointer in
    λ i. record { keys = (read i).0; extra = extra i; ptr = ptr i }
