-- What stands at the front of bytes, as it is read.
use Rattle.std.proofs.Common.{◌≡◌, ◌≢◌, ℕ, ℤ, zero, suc, ◌-◌, ◌^◌, ◌<◌, ◌≤◌, ◌==◌, if◌then◌else◌, true, false, Bool, List, [], ◌∷◌, ◌++◌, length, take, drop, slice_index, refl, sym, ap, subst, ◌∙◌, arith, nat_cmp}
use Rattle.std.specs.Prelude.{All, FitsSigned}
use Rattle.std.specs.Int.{w64, bytes_high_first}
use Rattle.std.proofs.lemmas.Cmp.{nat_cmp_total, tied_itself}
use Rattle.std.proofs.lemmas.Map.Lookups.{exact_bytes}
use Rattle.std.proofs.lemmas.Bool.Decides.{nat_tests}
use Rattle.byteorder.specs.Endian.{big_from}
use Rattle.byteorder.specs.Numbers.{big_from-lt, length-bytes_high_first}
use Rattle.opclass.specs.declared.value.KeyVal.{KeyVal}
use Rattle.opclass.specs.declared.value.KeyVal.TheVariants.{Nil, Num, Raw, Items}
use Rattle.opclass.specs.declared.spec.SortPart.{SortPart}
use Rattle.opclass.specs.Norm.{lifted, escaped, turned, directed_bytes, null_byte}
use Rattle.opclass.specs.Pass.{marked, zero_of, HasNoEnd, StartsWithNumber, StartsWithBytes, StartsWithPiece}
use Rattle.opclass.proofs.Pieces.{AreBytes, AreBytes-from_all, AreBytes-high_first, bytes_cmp-big, reads_back}
use Rattle.opclass.proofs.Bytes.{take-length, take-drop}

-- ---- bytes by a column's direction

turned-turned : (xs : List ℕ) → AreBytes xs → turned (turned xs) ≡ xs
turned-turned [] h = refl
turned-turned (x ∷ xs) h =
    let byte : 255 - (255 - x) ≡ x = omega (arith, h 0) in
    λ i. byte i ∷ turned-turned xs (λ k. h (suc k)) i

AreBytes-turned : (xs : List ℕ) → AreBytes (turned xs)
AreBytes-turned [] k = omega arith
AreBytes-turned (x ∷ xs) zero = omega arith
AreBytes-turned (x ∷ xs) (suc k) = AreBytes-turned xs k

length-turned : (xs : List ℕ) → length (turned xs) ≡ length xs
length-turned [] = refl
length-turned (x ∷ xs) = ap suc (length-turned xs)

twice_directed : (part : SortPart) (xs : List ℕ) → AreBytes xs → directed_bytes part (directed_bytes part xs) ≡ xs
twice_directed part xs h =
    elim part.descending as (λ d. (if d then turned (if d then turned xs else xs) else (if d then turned xs else xs)) ≡ xs)
    [ true ↦ turned-turned xs h | false ↦ refl ]

pub AreBytes-directed : (part : SortPart) (xs : List ℕ) → AreBytes xs → AreBytes (directed_bytes part xs)
AreBytes-directed part xs h = elim part.descending as (λ d. AreBytes (if d then turned xs else xs)) [ true ↦ AreBytes-turned xs | false ↦ h ]

length-directed : (part : SortPart) (xs : List ℕ) → length (directed_bytes part xs) ≡ length xs
length-directed part xs = elim part.descending as (λ d. length (if d then turned xs else xs) ≡ length xs) [ true ↦ length-turned xs | false ↦ refl ]

-- ---- numbers

high_first-big : (xs : List ℕ) → length xs ≡ 8 → AreBytes xs → bytes_high_first 8 (big_from 0 8 xs) ≡ xs
high_first-big xs size h =
    let number : ℕ = big_from 0 8 xs in
    let fits : number < 256 ^ 8 = big_from-lt 0 8 xs h in
    exact_bytes (bytes_high_first 8 number) xs
    (bytes_cmp-big 8 (bytes_high_first 8 number) xs (length-bytes_high_first 8 number) size (AreBytes-high_first 8 number) h
    ∙ ap (λ (n : ℕ). nat_cmp n number) (reads_back number fits)
    ∙ tied_itself nat_cmp_total number)

AreBytes-take : (n : ℕ) (xs : List ℕ) → AreBytes xs → AreBytes (take n xs)
AreBytes-take zero xs h k = omega arith
AreBytes-take (suc n) [] h k = omega arith
AreBytes-take (suc n) (x ∷ xs) h zero = h 0
AreBytes-take (suc n) (x ∷ xs) h (suc k) = AreBytes-take n xs (λ j. h (suc j)) k

length-take8 : (n : ℕ) (xs : List ℕ) → n ≤ length xs → length (take n xs) ≡ n
length-take8 zero xs h = refl
length-take8 (suc n) [] h = absurd (omega arith)
length-take8 (suc n) (x ∷ xs) h = ap suc (length-take8 n xs (omega arith))

length-drop8 : (n : ℕ) (xs : List ℕ) → length (drop n xs) ≡ length xs - n
length-drop8 zero xs = omega arith
length-drop8 (suc n) [] = omega arith
length-drop8 (suc n) (x ∷ xs) = length-drop8 n xs ∙ omega arith

pub number_front : (part : SortPart) (bytes field : List ℕ) (z : ℤ) (k : ℕ) → 8 ≤ length bytes → AreBytes bytes → field ≡ directed_bytes part (take 8 bytes)
    → lifted z ≡ big_from 0 8 field → k ≡ length bytes - 8 → StartsWithNumber part bytes z (take k (drop 8 bytes))
number_front part bytes field z k enough h turned_field number size =
    let first : List ℕ = take 8 bytes in
    let are : AreBytes first = AreBytes-take 8 bytes h in
    let field_bytes : AreBytes field = subst AreBytes (sym turned_field) (AreBytes-directed part first are) in
    let field_size : length field ≡ 8 = ap length turned_field ∙ length-directed part first ∙ length-take8 8 bytes enough in
    let written : bytes_high_first 8 (lifted z) ≡ directed_bytes part first =
    ap (bytes_high_first 8) number ∙ high_first-big field field_size field_bytes ∙ turned_field in
    take-drop 8 bytes
    ∙ ap (λ (xs : List ℕ). xs ++ drop 8 bytes) (sym (ap (directed_bytes part) written ∙ twice_directed part first are))
    ∙ ap (λ (xs : List ℕ). directed_bytes part (bytes_high_first 8 (lifted z)) ++ xs) (sym (take-length k (drop 8 bytes) (size ∙ sym (length-drop8 8 bytes))))

-- ---- bytes with their end

test-no : (a b : ℕ) → a ≢ b → (a == b) ≡ false
test-no a b h = grind (arith, nat_tests)

marked-other : (mark byte : ℕ) (rest : List ℕ) → byte ≢ mark → marked mark (byte ∷ rest) ≡ byte ∷ marked mark rest
marked-other mark byte rest h = ap (λ (t : Bool). if t then mark ∷ (255 - mark) ∷ marked mark rest else byte ∷ marked mark rest) (test-no byte mark h)

escaped-marked : (xs : List ℕ) → escaped xs ≡ marked 0 xs
escaped-marked [] = refl
escaped-marked (zero ∷ xs) = ap (λ (rest : List ℕ). 0 ∷ 255 ∷ rest) (escaped-marked xs)
escaped-marked (suc x ∷ xs) = ap (λ (rest : List ℕ). suc x ∷ rest) (escaped-marked xs) ∙ sym (marked-other 0 (suc x) xs (λ e. omega arith))

turned-escaped : (xs : List ℕ) → AreBytes xs → turned (escaped xs) ≡ marked 255 (turned xs)
turned-escaped [] h = refl
turned-escaped (zero ∷ xs) h = ap (λ (rest : List ℕ). 255 ∷ 0 ∷ rest) (turned-escaped xs (λ k. h (suc k)))
turned-escaped (suc x ∷ xs) h =
    ap (λ (rest : List ℕ). (255 - suc x) ∷ rest) (turned-escaped xs (λ k. h (suc k)))
    ∙ sym (marked-other 255 (255 - suc x) (turned xs) (λ e. omega arith))

directed-escaped : (part : SortPart) (xs : List ℕ) → AreBytes xs → directed_bytes part (escaped xs) ≡ marked (zero_of part) (directed_bytes part xs)
directed-escaped part xs h =
    elim part.descending as (λ d. (if d then turned (escaped xs) else escaped xs) ≡ marked (if d then 255 else 0) (if d then turned xs else xs))
    [ true ↦ turned-escaped xs h | false ↦ escaped-marked xs ]

All-from_bytes : (xs : List ℕ) → AreBytes xs → All (λ byte. byte < 256) xs
All-from_bytes [] h k d inside = absurd (omega arith)
All-from_bytes (x ∷ xs) h zero d inside = h 0
All-from_bytes (x ∷ xs) h (suc k) d inside = All-from_bytes xs (λ j. h (suc j)) k d (omega arith)

pub bytes_front : (part : SortPart) (bytes read behind : List ℕ) → AreBytes read → bytes ≡ marked (zero_of part) read ++ behind
    → StartsWithBytes part bytes (directed_bytes part read) behind
bytes_front part bytes read behind h is = record {
  are_bytes = All-from_bytes (directed_bytes part read) (AreBytes-directed part read h);
  split =
      is
      ∙ ap (λ (xs : List ℕ). marked (zero_of part) xs ++ behind) (sym (twice_directed part read h))
      ∙ ap (λ (xs : List ℕ). xs ++ behind) (sym (directed-escaped part (directed_bytes part read) (AreBytes-directed part read h)));
}

pub bytes_none : (part : SortPart) (bytes : List ℕ) → HasNoEnd (zero_of part) bytes → (inside behind : List ℕ) → StartsWithBytes part bytes inside behind → ⊥
bytes_none part bytes none inside behind starts =
    none (directed_bytes part inside) behind
    (starts.split ∙ ap (λ (xs : List ℕ). xs ++ behind) (directed-escaped part inside (AreBytes-from_all inside starts.are_bytes)))

-- ---- pieces

pub first_byte : (k : ℕ) (bytes : List ℕ) → k ≡ length bytes - 1 → 1 ≤ length bytes → bytes ≡ slice_index bytes 0 ∷ take k (drop 1 bytes)
first_byte k [] size some = absurd (omega arith)
first_byte k (byte ∷ bytes) size some = ap (λ (rest : List ℕ). byte ∷ rest) (sym (take-length k bytes (omega arith)))

pub null_front : (part : SortPart) (bytes behind : List ℕ) (kind : ℕ) → bytes ≡ kind ∷ behind → kind ≡ null_byte part → StartsWithPiece part bytes Nil behind
null_front part bytes behind kind split is = record { is_key = tt; split = split ∙ ap (λ (b : ℕ). b ∷ behind) is }

pub number_piece : (part : SortPart) (bytes after behind : List ℕ) (kind : ℕ) (number : ℤ) → bytes ≡ kind ∷ after → kind ≡ 1 → FitsSigned w64 number
    → StartsWithNumber part after number behind → StartsWithPiece part bytes (Num number) behind
number_piece part bytes after behind kind number split is fits starts =
    record { is_key = fits; split = split ∙ (λ i. is i ∷ starts i) }

pub bytes_piece : (part : SortPart) (bytes after inside behind : List ℕ) (kind : ℕ) → bytes ≡ kind ∷ after → kind ≡ 2
    → StartsWithBytes part after inside behind → StartsWithPiece part bytes (Raw inside) behind
bytes_piece part bytes after inside behind kind split is starts =
    record { is_key = starts.are_bytes; split = split ∙ (λ i. is i ∷ starts.split i) }

same_front : (x y : ℕ) (xs ys : List ℕ) → x ∷ xs ≡ y ∷ ys → (x ≡ y) × (xs ≡ ys)
same_front x y xs ys e = ((cc), (cc))

pub no_piece : (part : SortPart) (bytes after : List ℕ) (kind : ℕ) → bytes ≡ kind ∷ after → kind ≢ null_byte part
    → (kind ≡ 1 → (number : ℤ) (behind : List ℕ) → StartsWithNumber part after number behind → ⊥)
    → (kind ≡ 2 → (inside behind : List ℕ) → StartsWithBytes part after inside behind → ⊥)
    → (value : KeyVal) (behind : List ℕ) → StartsWithPiece part bytes value behind → ⊥
no_piece part bytes after kind split null number inside Nil behind starts =
    null (same_front kind (null_byte part) after behind (sym split ∙ starts.split)).0
no_piece part bytes after kind split null number inside (Num z) behind starts =
    let same = same_front kind 1 after (directed_bytes part (bytes_high_first 8 (lifted z)) ++ behind) (sym split ∙ starts.split) in
    number same.0 z behind same.1
no_piece part bytes after kind split null number inside (Raw xs) behind starts =
    let same = same_front kind 2 after (directed_bytes part (escaped xs) ++ behind) (sym split ∙ starts.split) in
    inside same.0 xs behind (record { are_bytes = starts.is_key; split = same.1 })
no_piece part bytes after kind split null number inside (Items es) behind starts = absurd starts.is_key

pub no_piece_empty : (part : SortPart) (bytes : List ℕ) → length bytes < 1 → (value : KeyVal) (behind : List ℕ) → StartsWithPiece part bytes value behind → ⊥
no_piece_empty part (b ∷ bytes) h value behind starts = omega arith
no_piece_empty part [] h Nil behind starts = absurd (omega (arith, ap length starts.split))
no_piece_empty part [] h (Num z) behind starts = absurd (omega (arith, ap length starts.split))
no_piece_empty part [] h (Raw xs) behind starts = absurd (omega (arith, ap length starts.split))
no_piece_empty part [] h (Items es) behind starts = absurd starts.is_key

-- ---- a vector that was read

pub take-front : (n : ℕ) (front behind : List ℕ) → n ≡ length front → take n (front ++ behind) ≡ front
take-front zero [] behind e = refl
take-front zero (x ∷ front) behind e = absurd (omega arith)
take-front (suc n) [] behind e = absurd (omega arith)
take-front (suc n) (x ∷ front) behind e = ap (λ (rest : List ℕ). x ∷ rest) (take-front n front behind (omega arith))

pub length-directed_bytes : (part : SortPart) (xs : List ℕ) → length (directed_bytes part xs) ≡ length xs
length-directed_bytes part xs = length-directed part xs

test-yes : (a b : ℕ) → (a == b) ≡ true → a ≡ b
test-yes a b e = grind (arith, nat_tests)

both : (x : ℕ) (xs : List ℕ) → x < 256 → AreBytes xs → AreBytes (x ∷ xs)
both x xs h rest zero = h
both x xs h rest (suc k) = rest k

-- what was read between marks are bytes
pub AreBytes-marked : (mark : ℕ) (xs behind : List ℕ) → mark < 256 → AreBytes (marked mark xs ++ behind) → AreBytes xs
AreBytes-marked mark [] behind small h = λ k. omega arith
AreBytes-marked mark (x ∷ xs) behind small h =
    by_test (x == mark) refl (λ rest. AreBytes-marked mark xs behind small rest)
  where
    by_test : (t : Bool) → (x == mark) ≡ t → (AreBytes (marked mark xs ++ behind) → AreBytes xs) → AreBytes (x ∷ xs)
    by_test true test rest =
        let spelt : marked mark (x ∷ xs) ≡ mark ∷ (255 - mark) ∷ marked mark xs =
        ap (λ (t : Bool). if t then mark ∷ (255 - mark) ∷ marked mark xs else x ∷ marked mark xs) test in
        let all : AreBytes (mark ∷ (255 - mark) ∷ (marked mark xs ++ behind)) = subst (λ (ys : List ℕ). AreBytes (ys ++ behind)) spelt h in
        both x xs (omega (arith, test-yes x mark test)) (rest (λ j. all (suc (suc j))))
    by_test false test rest =
        let spelt : marked mark (x ∷ xs) ≡ x ∷ marked mark xs =
        ap (λ (t : Bool). if t then mark ∷ (255 - mark) ∷ marked mark xs else x ∷ marked mark xs) test in
        let all : AreBytes (x ∷ (marked mark xs ++ behind)) = subst (λ (ys : List ℕ). AreBytes (ys ++ behind)) spelt h in
        both x xs (all 0) (rest (λ j. all (suc j)))
