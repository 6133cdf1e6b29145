-- The segment at the front of bytes.
use Rattle.std.proofs.Common.{◌≡◌, ◌+◌, ◌-◌, ◌/◌, ◌%◌, Bool, true, false, ◌<◌, ◌≤◌, ℕ, List, [], ◌∷◌, ◌++◌, length, take, sym, ap, subst, ◌∙◌, arith, length-append, Some, None, IfOk, MatchOption}
use Rattle.std.specs.Prelude.{cond, nat_lt, Option, Result, Ok, Err, IfSome}
use Rattle.std.specs.List.{AllByRecursion, flat_map}
use Rattle.std.proofs.lemmas.List.{append_assoc, append-nil, take_at}
use Rattle.pg_bytes.specs.Numbers.{number_at, number_bytes}
use Rattle.pg_bytes.specs.Places.{zeros}
use Rattle.pg_bytes.specs.Pointers.{row_pointer_bytes}
use Rattle.pg_bytes.specs.declared.row_ptr.RowPtr.{RowPtr}
use Rattle.pg_bytes.proofs.Writes.{length-number_bytes}
use Rattle.pg_bytes.proofs.ItemPage.{number_at-first, number_at-past}
use Rattle.btree_item.proofs.Sizes.{length-row_pointer}
use Rattle.posting_tree.proofs.LeafSteps.{length-segment}
use Rattle.posting_tree.proofs.OneList.{segments-one}
use Rattle.posting_tree.specs.Segments.{AreSegmentsOf, IsPart, deltas, deltas_behind, groups, number_of, segment, segment_from, varbyte}
use Rattle.gin_file.specs.Pass.{BeginsWithSegment}

-- ---- how long a segment is

-- a number takes a byte at least
varbyte-least : (x : ℕ) → 1 ≤ length (varbyte x)
unfolding varbyte
varbyte-least x =
    elim (nat_lt x 128) as (λ (b : Bool). 1 ≤ length (cond b (x ∷ []) ((x % 128 + 128) ∷ groups 6 (x / 128)))) [
      | true ↦ omega arith
      | false ↦ omega arith
    ]

deltas-least : (number : ℕ) (ptrs : List RowPtr) → length ptrs ≤ length (deltas_behind number ptrs)
deltas-least number [] = omega arith
deltas-least number (ptr ∷ ptrs) =
    let first = varbyte-least (number_of ptr - number) in
    let rest = deltas-least (number_of ptr) ptrs in
    let both = length-append (varbyte (number_of ptr - number)) (deltas_behind (number_of ptr) ptrs) in
    omega arith

-- a segment takes a byte for each pointer at least
pub segment-least : (ptrs : List RowPtr) → length ptrs ≤ length (segment ptrs)
unfolding segment_from
segment-least [] = omega arith
segment-least (first ∷ others) =
    let ds : List ℕ = deltas_behind (number_of first) others in
    let least = deltas-least (number_of first) others in
    let six = length-row_pointer first in
    let two = length-number_bytes 2 (length ds) in
    let a = length-append (row_pointer_bytes first) (number_bytes 2 (length ds) ++ (ds ++ zeros (length ds % 2))) in
    let b = length-append (number_bytes 2 (length ds)) (ds ++ zeros (length ds % 2)) in
    let c = length-append ds (zeros (length ds % 2)) in
    omega arith

-- where the segment of pointers ends
abbrev pub end_of : List RowPtr → ℕ
end_of ptrs = 8 + length (deltas ptrs) + length (deltas ptrs) % 2

pub long-segment : (ptrs : List RowPtr) → 0 < length ptrs → length (segment ptrs) ≡ end_of ptrs
long-segment [] some = absurd (omega arith)
long-segment (first ∷ others) some = length-segment first others

-- the bytes of its deltas are counted behind its first pointer
count-read : (ptrs : List RowPtr) (bytes rest : List ℕ) → IsPart ptrs → bytes ≡ segment ptrs ++ rest → number_at 2 bytes 6 ≡ length (deltas ptrs)
unfolding segment_from
count-read [] bytes rest part are = let some = part.some in absurd (omega arith)
count-read (first ∷ others) bytes rest part are =
    let ds : List ℕ = deltas_behind (number_of first) others in
    let counted = part.counted in
    let behind : List ℕ = (ds ++ zeros (length ds % 2)) ++ rest in
    let whole : bytes ≡ row_pointer_bytes first ++ (number_bytes 2 (length ds) ++ behind) = are ∙ simp append_assoc in
    ap (λ (b : List ℕ). number_at 2 b 6) whole
    ∙ number_at-past 2 (row_pointer_bytes first) (number_bytes 2 (length ds) ++ behind) 6 (length-row_pointer first)
    ∙ number_at-first 2 (length ds) behind (omega arith)

-- ---- what is read

-- what is read of bytes with a segment at the front
pub record Front (bytes : List ℕ) (ptrs : List RowPtr) : Type 0 where
  pub count : number_at 2 bytes 6 ≡ length (deltas ptrs)
  pub long : end_of ptrs ≤ length bytes
  pub front : take (end_of ptrs) bytes ≡ segment ptrs

pub front-of : (bytes : List ℕ) (ptrs : List RowPtr) → BeginsWithSegment bytes ptrs → Front bytes ptrs
front-of bytes ptrs b =
    let long = long-segment ptrs b.part.some in
    let all = ap length b.bytes_are ∙ length-append (segment ptrs) b.rest in
    record {
      count = count-read ptrs bytes b.rest b.part b.bytes_are;
      long = omega arith;
      front = ap (take (end_of ptrs)) b.bytes_are ∙ take_at (segment ptrs) b.rest (end_of ptrs) long;
    }

-- pointers of one segment
pub one-segment : (bytes : List ℕ) (ptrs : List RowPtr) → BeginsWithSegment bytes ptrs → AreSegmentsOf ptrs (segment ptrs)
one-segment bytes ptrs b = record {
  ascending = b.ascending;
  blocks = b.blocks;
  parts = ptrs ∷ [];
  each = (b.part, tt);
  whole = sym (append-nil ptrs);
  bytes_are = sym (append-nil (segment ptrs));
}

-- fewer bytes than a segment has
pub too-few : (bytes : List ℕ) (ptrs : List RowPtr) (answer : Option (List RowPtr)) → length bytes < 8 → BeginsWithSegment bytes ptrs → answer ≡ Some ptrs
too-few bytes ptrs answer few b = let long = (front-of bytes ptrs b).long in absurd (omega arith)

pub cut-off : (bytes : List ℕ) (ptrs : List RowPtr) (answer : Option (List RowPtr)) (count : ℕ) → count ≡ number_at 2 bytes 6
    → length bytes < 8 + count + count % 2 → BeginsWithSegment bytes ptrs → answer ≡ Some ptrs
cut-off bytes ptrs answer count is few b =
    let f = front-of bytes ptrs b in
    let same : count ≡ length (deltas ptrs) = is ∙ f.count in
    let rest : count % 2 ≡ length (deltas ptrs) % 2 = ap (λ (n : ℕ). n % 2) same in
    let long = f.long in
    absurd (omega arith)

-- what was decoded of the segment is the one list with which the bytes begin
pub decoded-only : {E : Type 0} (bytes slice : List ℕ) (count : ℕ) (result : Result (Option (List RowPtr)) E)
    → IfOk result (λ answer. MatchOption answer ((ptrs : List RowPtr) → AreSegmentsOf ptrs slice → ⊥) (λ ptrs. AreSegmentsOf ptrs slice))
    → count ≡ number_at 2 bytes 6 → slice ≡ take (8 + count + count % 2) bytes
    → IfOk result (λ answer. (ptrs : List RowPtr) → BeginsWithSegment bytes ptrs → answer ≡ Some ptrs)
decoded-only bytes slice count (Err e) answers is cut = tt
decoded-only bytes slice count (Ok None) answers is cut =
    λ ptrs b. absurd (answers ptrs (subst (AreSegmentsOf ptrs) (sym (slice-is bytes slice count ptrs b is cut)) (one-segment bytes ptrs b)))
  where
    slice-is : (bytes slice : List ℕ) (count : ℕ) (ptrs : List RowPtr) → BeginsWithSegment bytes ptrs → count ≡ number_at 2 bytes 6
        → slice ≡ take (8 + count + count % 2) bytes → slice ≡ segment ptrs
    slice-is bytes slice count ptrs b is cut =
        let f = front-of bytes ptrs b in
        cut ∙ ap (λ (n : ℕ). take (8 + n + n % 2) bytes) (is ∙ f.count) ∙ f.front
decoded-only bytes slice count (Ok (Some found)) answers is cut =
    λ ptrs b. ap (λ (p : List RowPtr). Some p) (segments-one slice found ptrs answers
    (subst (AreSegmentsOf ptrs) (sym (cut ∙ ap (λ (n : ℕ). take (8 + n + n % 2) bytes) (is ∙ (front-of bytes ptrs b).count) ∙ (front-of bytes ptrs b).front)) (one-segment bytes ptrs b)))

-- segments that have bytes have a pointer
pub some-pointer : (ptrs : List RowPtr) (slice : List ℕ) → AreSegmentsOf ptrs slice → 0 < length slice → 0 < length ptrs
some-pointer ptrs slice a long = by a.parts a.each a.whole a.bytes_are
  where
    by : (parts : List (List RowPtr)) → AllByRecursion IsPart parts → ptrs ≡ flat_map (λ part. part) parts → slice ≡ flat_map segment parts → 0 < length ptrs
    by [] each whole are = let none = ap length are in absurd (omega arith)
    by (part ∷ parts) each whole are =
        let some = each.0.some in
        let all = ap length whole ∙ length-append part (flat_map (λ part. part) parts) in
        omega arith

pub some-decoded : {E : Type 0} (bytes slice : List ℕ) (count : ℕ) (result : Result (Option (List RowPtr)) E)
    → IfOk result (λ answer. MatchOption answer ((ptrs : List RowPtr) → AreSegmentsOf ptrs slice → ⊥) (λ ptrs. AreSegmentsOf ptrs slice))
    → 0 < length slice
    → IfOk result (λ answer. IfSome answer (λ ptrs. 0 < length ptrs))
some-decoded bytes slice count (Err e) answers long = tt
some-decoded bytes slice count (Ok None) answers long = tt
some-decoded bytes slice count (Ok (Some found)) answers long = some-pointer found slice answers long
