-- Segments as they are put: head, deltas, the count of the deltas' bytes, and the zero byte.
use Rattle.std.proofs.Common.{◌≡◌, ℕ, suc, ◌+◌, ◌-◌, ◌%◌, ◌<◌, ◌≤◌, List, [], ◌∷◌, ◌++◌, length, take, drop, get_or, refl, sym, ap, ◌∙◌, arith, add-one, length-append}
use Rattle.std.proofs.lemmas.List.{append_assoc, take_all}
use Rattle.pg_bytes.proofs.Writes.{length-number_bytes, length-written, length-zeros, written-middle}
use Rattle.pg_bytes.specs.Numbers.{number_bytes}
use Rattle.pg_bytes.specs.Places.{written, zeros}
use Rattle.pg_bytes.specs.Pointers.{row_pointer_bytes}
use Rattle.pg_bytes.specs.declared.row_ptr.RowPtr.{RowPtr}
use Rattle.posting_tree.specs.Segments.{deltas_behind, number_of, segment, segment_from}

pub length-row_pointer : (p : RowPtr) → length (row_pointer_bytes p) ≡ 6
unfolding row_pointer_bytes
length-row_pointer p = simp (length-append, length-number_bytes) refl

-- the bytes of a segment behind those of a buffer, from what was put
pub closed-segment : (old head full closed ds : List ℕ) (first : RowPtr) (others : List RowPtr) (start : ℕ)
    → start ≡ length old → ds ≡ deltas_behind (number_of first) others
    → head ≡ old ++ (row_pointer_bytes first ++ number_bytes 2 0) → full ≡ head ++ ds
    → closed ≡ written (number_bytes 2 (length full - start - 8)) (start + 6) full ++ zeros ((length full - start - 8) % 2)
    → closed ≡ old ++ segment_from first others
unfolding segment_from
closed-segment old head full closed ds first others start at are begun put is =
    let six : length (row_pointer_bytes first) ≡ 6 = length-row_pointer first in
    let two : length (number_bytes 2 0) ≡ 2 = length-number_bytes 2 0 in
    let head_len : length head ≡ length old + 8 = ap length begun ∙ length-append old (row_pointer_bytes first ++ number_bytes 2 0)
    ∙ ap (λ (n : ℕ). length old + n) (length-append (row_pointer_bytes first) (number_bytes 2 0)) ∙ omega arith in
    let full_len : length full ≡ length head + length ds = ap length put ∙ length-append head ds in
    let count : length full - start - 8 ≡ length ds = omega arith in
    let whole : full ≡ (old ++ row_pointer_bytes first) ++ (number_bytes 2 0 ++ ds) =
    put ∙ ap (λ (h : List ℕ). h ++ ds) begun ∙ simp append_assoc refl in
    let front_len : length (old ++ row_pointer_bytes first) ≡ start + 6 = length-append old (row_pointer_bytes first) ∙ omega arith in
    let same : length (number_bytes 2 (length ds)) ≡ length (number_bytes 2 0) = length-number_bytes 2 (length ds) ∙ sym two in
    let counted : written (number_bytes 2 (length ds)) (start + 6) full ≡ (old ++ row_pointer_bytes first) ++ (number_bytes 2 (length ds) ++ ds) =
    ap (written (number_bytes 2 (length ds)) (start + 6)) whole
    ∙ written-middle (number_bytes 2 (length ds)) (old ++ row_pointer_bytes first) (number_bytes 2 0) ds (start + 6) front_len same in
    is
    ∙ ap (λ (n : ℕ). written (number_bytes 2 n) (start + 6) full ++ zeros (n % 2)) count
    ∙ ap (λ (bytes : List ℕ). bytes ++ zeros (length ds % 2)) counted
    ∙ simp append_assoc refl
    ∙ ap (λ (d : List ℕ). old ++ (row_pointer_bytes first ++ (number_bytes 2 (length d) ++ (d ++ zeros (length d % 2))))) are

-- a list that isn't empty, as its first item and the others
pub first-and-others : (ptrs : List RowPtr) (d : RowPtr) → 0 < length ptrs → ptrs ≡ get_or ptrs 0 d ∷ take (length ptrs - 1) (drop 1 ptrs)
first-and-others [] d h = absurd (omega arith)
first-and-others (first ∷ others) d h = ap (λ (xs : List RowPtr). first ∷ xs) (sym (take_all (suc (length others) - 1) others (omega arith)))

pub first-of-front : (ptrs : List RowPtr) (d : RowPtr) (count : ℕ) → 0 < length ptrs → count ≤ length ptrs - 1
    → take (count + 1) ptrs ≡ get_or ptrs 0 d ∷ take count (take (length ptrs - 1) (drop 1 ptrs))
first-of-front [] d count h few = absurd (omega arith)
first-of-front (first ∷ others) d count h few =
    rw add-one (ap (λ (xs : List RowPtr). first ∷ take count xs) (sym (take_all (suc (length others) - 1) others (omega arith))))

-- a segment was put behind bytes, in its steps
pub record PutsSegment (old head full closed : List ℕ) (ptrs : List RowPtr) (d : RowPtr) (count start : ℕ) : Type 0 where
  pub start_is : start ≡ length old
  pub head_is : head ≡ old ++ (row_pointer_bytes (get_or ptrs 0 d) ++ number_bytes 2 0)
  pub full_is : full ≡ head ++ deltas_behind (number_of (get_or ptrs 0 d)) (take count (take (length ptrs - 1) (drop 1 ptrs)))
  pub closed_is : closed ≡ written (number_bytes 2 (length full - start - 8)) (start + 6) full ++ zeros ((length full - start - 8) % 2)

pub length-head : (old head : List ℕ) (first : RowPtr) → head ≡ old ++ (row_pointer_bytes first ++ number_bytes 2 0) → length head ≡ length old + 8
length-head old head first is =
    let six : length (row_pointer_bytes first) ≡ 6 = length-row_pointer first in
    let two : length (number_bytes 2 0) ≡ 2 = length-number_bytes 2 0 in
    ap length is ∙ length-append old (row_pointer_bytes first ++ number_bytes 2 0)
    ∙ ap (λ (n : ℕ). length old + n) (length-append (row_pointer_bytes first) (number_bytes 2 0)) ∙ omega arith

pub puts-segment : (old head full closed : List ℕ) (ptrs : List RowPtr) (d : RowPtr) (count start : ℕ) → PutsSegment old head full closed ptrs d count start
    → 0 < length ptrs → count ≤ length ptrs - 1 → closed ≡ old ++ segment (take (count + 1) ptrs)
puts-segment old head full closed ptrs d count start p some few =
    closed-segment old head full closed _ (get_or ptrs 0 d) (take count (take (length ptrs - 1) (drop 1 ptrs))) start p.start_is refl p.head_is p.full_is p.closed_is
    ∙ ap (λ (taken : List RowPtr). old ++ segment taken) (sym (first-of-front ptrs d count some few))

pub length-closed : (full closed : List ℕ) (start : ℕ) → start + 8 ≤ length full
    → closed ≡ written (number_bytes 2 (length full - start - 8)) (start + 6) full ++ zeros ((length full - start - 8) % 2)
    → length closed ≡ length full + (length full - start - 8) % 2
length-closed full closed start fits is =
    let two = length-number_bytes 2 (length full - start - 8) in
    let same = length-written (number_bytes 2 (length full - start - 8)) (start + 6) full (omega arith) in
    let zs = length-zeros ((length full - start - 8) % 2) in
    ap length is ∙ length-append (written (number_bytes 2 (length full - start - 8)) (start + 6) full) (zeros ((length full - start - 8) % 2)) ∙ omega arith
