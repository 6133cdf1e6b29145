-- What holds of relations in segments, whatever their bytes are.
use Rattle.std.proofs.Common.{◌≡◌, ℕ, zero, suc, ◌+◌, ◌-◌, ◌*◌, ◌/◌, ◌%◌, ◌<◌, ◌≤◌, List, ◌++◌, length, take, drop, Option, Some, None, refl, sym, ap, ◌∙◌, arith, inl, inr, subst}
use Rattle.std.specs.Prelude.{IsSome}
use Rattle.std.proofs.lemmas.Bool.{cases_lt}
use Rattle.std.proofs.Math.Nat.{le-div_iff_mul-le, mod-add-div', mod-lt}
use Rattle.std.proofs.lemmas.List.{length-drop, length-take-le, take_all}
use Rattle.pg_files.specs.Files.{content}
use Rattle.pg_files.specs.Outside.{FileMap}
use Rattle.segments.proofs.FileReads.{take-add}
use Rattle.segments.proofs.SeriesReads.{first_more, full_there, not_long}
use Rattle.segments.specs.Laws.{RelationsAreOne, WrittenIsRead}
use Rattle.segments.specs.Limits.{segment_bytes}
use Rattle.segments.specs.Names.{segment_name}
use Rattle.segments.specs.Relation.{AreFull, HasSegments, HasSeriesFault, IsFull, bytes_of_segment, first_segments, segment_of}
use Rattle.segments.specs.Writing.{HaveParts, part_of, segments_for}
use Rattle.segments.specs.declared.fault.SeriesCause.{SeriesCause}
use Rattle.segments.specs.declared.fault.SeriesCause.TheVariants.{Overlong, Surplus}
use Rattle.segments.specs.declared.limits.Limits.{Limits}

-- ---- files have one relation

absent : (file : Option (List ℕ)) → IsSome file → file ≡ None → ⊥
absent None there none = cc
absent (Some file) there none = cc

-- a relation with more segments has one behind another's end
not_more : (size : ℕ) (files : FileMap) (name : List ℕ) (one other : ℕ) → HasSegments size files name one → HasSegments size files name other → one < other → ⊥
not_more size files name one other first second less =
    let some : 0 < one = first.some in
    let full : IsFull size (segment_of files name (one - 1)) = second.full (one - 1) (omega (arith, some, less)) in
    let none : segment_of files name one ≡ None = first.end full in
    elim (cases_lt (one + 1) other) [
      | inl far ↦ full_there size (segment_of files name one) (second.full one (omega (arith, far))) none
      | inr near ↦ let last : other - 1 ≡ one = omega (arith, near, less) in
          let there : IsSome (segment_of files name one) = subst (λ (n : ℕ). IsSome (segment_of files name n)) last second.last in
          absent (segment_of files name one) there none
    ]

one_count : (size : ℕ) (files : FileMap) (name : List ℕ) (one other : ℕ) → HasSegments size files name one → HasSegments size files name other → one ≡ other
one_count size files name one other first second = elim (cases_lt one other) [
  | inl less ↦ absurd (not_more size files name one other first second less)
  | inr more ↦ elim (cases_lt other one) [
    | inl less ↦ absurd (not_more size files name other one second first less)
    | inr same ↦ omega (arith, more, same)
  ]
]

-- a segment that is too long is the only one, since those before it are full
one_long : (limits : Limits) (files : FileMap) (name : List ℕ) (one other : ℕ) → AreFull (segment_bytes limits) files name other
    → segment_bytes limits < length (bytes_of_segment files name one) → one < other → ⊥
one_long limits files name one other full long less = not_long (segment_bytes limits) (segment_of files name one) (full one less) long

one_cause : (limits : Limits) (name : List ℕ) (files : FileMap) (one other : SeriesCause) (block place : ℕ) → HasSeriesFault limits files name one block
    → HasSeriesFault limits files name other place → one ≡ other
one_cause limits name files Overlong Overlong block place first second = refl
one_cause limits name files Surplus Surplus block place first second = refl
one_cause limits name files Overlong Surplus block place first second =
    absurd (one_long limits files name first.0 limits.segments second.0 first.3 first.1)
one_cause limits name files Surplus Overlong block place first second =
    absurd (one_long limits files name second.0 limits.segments first.0 second.3 second.1)

one_block : (limits : Limits) (name : List ℕ) (files : FileMap) (cause : SeriesCause) (block place : ℕ) → HasSeriesFault limits files name cause block
    → HasSeriesFault limits files name cause place → block ≡ place
one_block limits name files Surplus block place first second = first.2 ∙ sym second.2
one_block limits name files Overlong block place first second = elim (cases_lt first.0 second.0) [
  | inl less ↦ absurd (one_long limits files name first.0 second.0 second.2 first.3 less)
  | inr more ↦ elim (cases_lt second.0 first.0) [
    | inl less ↦ absurd (one_long limits files name second.0 first.0 first.2 second.3 less)
    | inr same ↦ let number : first.0 ≡ second.0 = omega (arith, more, same) in
        first.4 ∙ ap (λ (n : ℕ). (n + 1) * limits.segment) number ∙ sym second.4
  ]
]

pub relations_are_one : RelationsAreOne
relations_are_one = record {
  bytes = λ limits name one other files first second.
      first.bytes_are ∙ ap (first_segments files name) (one_count (segment_bytes limits) files name first.count second.count first.segments second.segments)
      ∙ sym second.bytes_are;
  causes = one_cause;
  blocks = one_block;
}

-- ---- what is written is read

-- how many full parts there are, and what is left
rest_is : (size : ℕ) (image : List ℕ) → length (drop (length image / size * size) image) ≡ length image % size
rest_is size image =
    let parts : length image % size + length image / size * size ≡ length image = mod-add-div' (length image) size in
    let left : length (drop (length image / size * size) image) ≡ length image - length image / size * size = length-drop (length image / size * size) image in
    omega (arith, parts, left)

-- a part before the last is full
part_full : (size number : ℕ) (image : List ℕ) → 0 < size → number < length image / size → length (part_of size image number) ≡ size
part_full size number image some below =
    let end : (number + 1) * size ≤ length image = (le-div_iff_mul-le some).0 (omega (arith, below)) in
    let left : length (drop (number * size) image) ≡ length image - number * size = length-drop (number * size) image in
    let next : (number + 1) * size ≡ number * size + size = grind arith in
    length-take-le size (drop (number * size) image) (omega (arith, end, left, next))

-- and the last one isn't
part_short : (size : ℕ) (image : List ℕ) → 0 < size → length (part_of size image (length image / size)) < size
part_short size image some =
    let rest : List ℕ = drop (length image / size * size) image in
    let is : length rest ≡ length image % size = rest_is size image in
    let less : length image % size < size = mod-lt (length image) some in
    let whole : length (take size rest) ≡ length rest = ap length (take_all size rest (omega (arith, is, less))) in
    omega (arith, is, less, whole)

-- the bytes of so many first segments
first_written : (size : ℕ) (name image : List ℕ) (old new : FileMap) (count : ℕ) → count ≤ segments_for size image
    → HaveParts size name image (segments_for size image) old new → first_segments new name count ≡ take (count * size) image
first_written size name image old new zero within parts = ap (λ (n : ℕ). take n image) (let e : 0 ≡ 0 * size = omega arith in e)
first_written size name image old new (suc count) within parts =
    let next : count * size + size ≡ suc count * size = grind arith in
    ap (first_segments new name) (let e : suc count ≡ count + 1 = omega arith in e)
    ∙ first_more new name count
    ∙ ap (λ (b : List ℕ). b ++ bytes_of_segment new name count) (first_written size name image old new count (omega (arith, within)) parts)
    ∙ ap (λ (file : Option (List ℕ)). take (count * size) image ++ content file) (parts.each count (omega (arith, within)))
    ∙ take-add (count * size) size image
    ∙ ap (λ (n : ℕ). take n image) next

is_full : (size : ℕ) (file : Option (List ℕ)) (bytes : List ℕ) → file ≡ Some bytes → length bytes ≡ size → IsFull size file
is_full size file bytes is full = subst (IsFull size) (sym is) full

is_there : (file : Option (List ℕ)) (bytes : List ℕ) → file ≡ Some bytes → IsSome file
is_there file bytes is = subst (λ (f : Option (List ℕ)). IsSome f) (sym is) (let there : IsSome (Some bytes) = refl in there)

is_short : (size : ℕ) (file : Option (List ℕ)) (bytes : List ℕ) → file ≡ Some bytes → length bytes < size → IsFull size file → ⊥
is_short size file bytes is short full = let whole : length bytes ≡ size = subst (IsFull size) is full in omega (arith, short, whole)

written_segments : (size : ℕ) (name image : List ℕ) (old new : FileMap) → 0 < size
    → HaveParts size name image (segments_for size image) old new → HasSegments size new name (segments_for size image)
written_segments size name image old new some parts =
    let count : ℕ = length image / size in
    let last : segments_for size image - 1 ≡ count = omega arith in
    let here : new (segment_name name count) ≡ Some (part_of size image count) = parts.each count (omega arith) in record {
      some = omega arith;
      full = λ number below. is_full size (segment_of new name number) (part_of size image number) (parts.each number (omega (arith, below)))
          (part_full size number image some (omega (arith, below)));
      last = subst (λ (n : ℕ). IsSome (segment_of new name n)) (sym last) (is_there (segment_of new name count) (part_of size image count) here);
      end = λ full. absurd (is_short size (segment_of new name count) (part_of size image count) here (part_short size image some)
          (subst (λ (n : ℕ). IsFull size (segment_of new name n)) last full));
    }

written_bytes : (size : ℕ) (name image : List ℕ) (old new : FileMap) → 0 < size
    → HaveParts size name image (segments_for size image) old new → first_segments new name (segments_for size image) ≡ image
written_bytes size name image old new some parts =
    let division : length image % size + length image / size * size ≡ length image = mod-add-div' (length image) size in
    let less : length image % size < size = mod-lt (length image) some in
    let all : (length image / size + 1) * size ≡ length image / size * size + size = grind arith in
    first_written size name image old new (segments_for size image) (omega arith) parts
    ∙ take_all (segments_for size image * size) image (omega (arith, division, less, all))

pub written_is_read : WrittenIsRead
written_is_read = record { segments = written_segments; bytes = written_bytes }
