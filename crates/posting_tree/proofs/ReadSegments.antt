-- The segments that bytes are to their end are those of one list of pointers.
use Rattle.std.proofs.Common.{◌≡◌, ℕ, ◌%◌, ◌^◌, ◌<◌, ◌≤◌, List, [], ◌∷◌, ◌++◌, length, ◌⊎◌, inl, inr, refl, sym, ap, subst, ◌∙◌, arith, length-append}
use Rattle.std.specs.List.{AllByRecursion, flat_map}
use Rattle.std.proofs.lemmas.Bool.{cases_order}
use Rattle.std.proofs.lemmas.List.{append-nil, append_assoc}
use Rattle.pg_bytes.specs.Numbers.{number_bytes}
use Rattle.pg_bytes.specs.Places.{zeros}
use Rattle.pg_bytes.specs.Pointers.{IsBefore, row_pointer_bytes}
use Rattle.pg_bytes.specs.declared.row_ptr.RowPtr.{RowPtr}
use Rattle.posting_tree.proofs.Deltas.{number-before}
use Rattle.posting_tree.proofs.Heads.{segment-one}
use Rattle.posting_tree.proofs.Segments.{length-row_pointer}
use Rattle.posting_tree.specs.Pass.{AreBehind, AreDeltasOf, AreSegmentsBehind, ReadsDeltas, ReadsSegment, SegmentsLead, StartsWithSegment, last_number}
use Rattle.posting_tree.specs.Segments.{AreAscending, AreSegmentsOf, IsBeforeFirst, IsPart, IsStorable, deltas_behind, number_of, segment, segment_from}

-- ---- pointers behind a number, cut in two

pub behind-front : (number : ℕ) (got rest : List RowPtr) → AreBehind number (got ++ rest) → AreBehind number got × AreBehind (last_number number got) rest
behind-front number [] rest b = (tt, b)
behind-front number (ptr ∷ got) rest b =
    let more = behind-front (number_of ptr) got rest b.2.1 in
    ((b.0, b.1, (b.2.0, more.0)), more.1)

pub behind-joined : (number : ℕ) (got rest : List RowPtr) → AreBehind number got → AreBehind (last_number number got) rest → AreBehind number (got ++ rest)
behind-joined number [] rest a b = b
behind-joined number (ptr ∷ got) rest a b = (a.0, a.1, (a.2.0, behind-joined (number_of ptr) got rest a.2.1 b))

-- ---- the first segment of a list

-- the segment of pointers whose bytes stand in front
pub front-segment : (bytes left : List ℕ) (first : RowPtr) (others : List RowPtr) → IsStorable first → first.block < 2 ^ 32
    → length (deltas_behind (number_of first) others) < 2 ^ 16 → bytes ≡ segment_from first others ++ left
    → StartsWithSegment bytes first (deltas_behind (number_of first) others) left
unfolding segment_from
front-segment bytes left first others storable block counted is = record {
  storable = storable;
  block = block;
  counted = counted;
  bytes_are = is ∙ simp append_assoc refl;
}

pub segment-front : (bytes ds left : List ℕ) (first : RowPtr) (others : List RowPtr) → StartsWithSegment bytes first ds left
    → ds ≡ deltas_behind (number_of first) others → bytes ≡ segment_from first others ++ left
unfolding segment_from
segment-front bytes ds left first others s is =
    s.bytes_are
    ∙ ap (λ (d : List ℕ). row_pointer_bytes first ++ (number_bytes 2 (length d) ++ (d ++ (zeros (length d % 2) ++ left)))) is
    ∙ simp append_assoc refl

-- The list that bytes which aren't none are the segments of: a first pointer, the others of its segment, and the rest.
pub record FirstSegment (number : ℕ) (bytes : List ℕ) (all : List RowPtr) : Type 0 where
  pub first : RowPtr
  pub others : List RowPtr
  pub rest : List RowPtr
  pub left : List ℕ
  pub all_is : all ≡ first ∷ (others ++ rest)
  pub behind : number < number_of first
  pub starts : StartsWithSegment bytes first (deltas_behind (number_of first) others) left
  pub deltas : AreDeltasOf (number_of first) (deltas_behind (number_of first) others) others
  pub next : AreSegmentsBehind (last_number (number_of first) others) left rest

pub first-segment : (number : ℕ) (bytes : List ℕ) (all : List RowPtr) → 0 < length bytes → AreSegmentsBehind number bytes all → FirstSegment number bytes all
first-segment number bytes all some s = by_parts s.parts s.each s.whole s.bytes_are
  where
    by_parts : (parts : List (List RowPtr)) → AllByRecursion IsPart parts → all ≡ flat_map (λ part. part) parts → bytes ≡ flat_map segment parts
        → FirstSegment number bytes all
    by_parts [] each whole is = let e = ap length is in absurd (omega arith)
    by_parts ([] ∷ parts) each whole is = let e = each.0.some in absurd (omega arith)
    by_parts ((first ∷ others) ∷ parts) each whole is =
        let behind : AreBehind number (first ∷ (others ++ flat_map (λ part. part) parts)) = subst (AreBehind number) whole s.behind in
        let cut = behind-front (number_of first) others (flat_map (λ part. part) parts) behind.2.1 in
        record {
          first = first;
          others = others;
          rest = flat_map (λ part. part) parts;
          left = flat_map segment parts;
          all_is = whole;
          behind = behind.2.0;
          starts = front-segment bytes (flat_map segment parts) first others behind.0 behind.1 each.0.counted is;
          deltas = record { behind = cut.0; bytes_are = refl };
          next = record { behind = cut.1; parts = parts; each = each.1; whole = refl; bytes_are = refl };
        }

-- ---- the refusals

pub no-segment : (number : ℕ) (bytes : List ℕ) → 0 < length bytes
    → ((first : RowPtr) (ds left : List ℕ) → StartsWithSegment bytes first ds left → ⊥)
    → (all : List RowPtr) → AreSegmentsBehind number bytes all → ⊥
no-segment number bytes some none all s = let f = first-segment number bytes all some s in none f.first _ _ f.starts

pub not-behind : (number : ℕ) (bytes ds left : List ℕ) (first : RowPtr) → 0 < length bytes → StartsWithSegment bytes first ds left
    → number_of first ≤ number → (all : List RowPtr) → AreSegmentsBehind number bytes all → ⊥
not-behind number bytes ds left first some t low all s =
    let f = first-segment number bytes all some s in
    let same = segment-one bytes first f.first ds _ left _ t f.starts in
    let at = ap number_of same.0 in
    let above = f.behind in
    absurd (omega arith)

pub no-deltas : (number : ℕ) (bytes ds left : List ℕ) (first : RowPtr) → 0 < length bytes → StartsWithSegment bytes first ds left
    → ((others : List RowPtr) → AreDeltasOf (number_of first) ds others → ⊥) → (all : List RowPtr) → AreSegmentsBehind number bytes all → ⊥
no-deltas number bytes ds left first some t none all s =
    let f = first-segment number bytes all some s in
    let same = segment-one bytes first f.first ds _ left _ t f.starts in
    none f.others
    (subst (λ (n : ℕ). AreDeltasOf n ds f.others) (sym (ap number_of same.0))
    (subst (λ (d : List ℕ). AreDeltasOf (number_of f.first) d f.others) (sym same.1) f.deltas))

-- ---- one segment more

pub segment-lead : (number next : ℕ) (bytes ds left : List ℕ) (first : RowPtr) (old new : List RowPtr) → 0 < length bytes → number < number_of first
    → StartsWithSegment bytes first ds left → (r : ReadsDeltas (number_of first) ds old new next)
    → SegmentsLead number bytes next left (first ∷ r.got)
segment-lead number next bytes ds left first old new some above t r = record {
  gives = λ rest s. record {
    behind = (t.storable, t.block, (above, behind-joined (number_of first) r.got rest r.are.behind (subst (λ (n : ℕ). AreBehind n rest) r.last_is s.behind)));
    parts = (first ∷ r.got) ∷ s.parts;
    each = (record { some = omega arith; counted = subst (λ (d : List ℕ). length d < 2 ^ 16) r.are.bytes_are t.counted }, s.each);
    whole = ap (λ (more : List RowPtr). first ∷ (r.got ++ more)) s.whole;
    bytes_are = segment-front bytes ds left first r.got t r.are.bytes_are ∙ ap (λ (more : List ℕ). segment_from first r.got ++ more) s.bytes_are;
  };
  needs = λ all s.
      let f = first-segment number bytes all some s in
      let same = segment-one bytes first f.first ds _ left _ t f.starts in
      let at : number_of f.first ≡ number_of first = sym (ap number_of same.0) in
      let others : f.others ≡ r.got =
      r.only f.others
      (subst (λ (n : ℕ). AreDeltasOf n ds f.others) at
      (subst (λ (d : List ℕ). AreDeltasOf (number_of f.first) d f.others) (sym same.1) f.deltas)) in
      let last : last_number (number_of f.first) f.others ≡ next =
      ap (λ (n : ℕ). last_number n f.others) at ∙ ap (last_number (number_of first)) others ∙ sym r.last_is in (
        f.rest,
        f.all_is ∙ ap (λ (p : RowPtr). p ∷ (f.others ++ f.rest)) (sym same.0) ∙ ap (λ (o : List RowPtr). first ∷ (o ++ f.rest)) others,
        subst (λ (n : ℕ). AreSegmentsBehind n left f.rest) last
            (subst (λ (l : List ℕ). AreSegmentsBehind (last_number (number_of f.first) f.others) l f.rest) (sym same.2) f.next),
      );
}

shorter-segment : (bytes ds left : List ℕ) (first : RowPtr) → StartsWithSegment bytes first ds left → length left < length bytes
shorter-segment bytes ds left first s =
    let six = length-row_pointer first in
    let more = length-append (row_pointer_bytes first) (number_bytes 2 (length ds) ++ (ds ++ (zeros (length ds % 2) ++ left))) in
    let more2 = length-append (number_bytes 2 (length ds)) (ds ++ (zeros (length ds % 2) ++ left)) in
    let more3 = length-append ds (zeros (length ds % 2) ++ left) in
    let more4 = length-append (zeros (length ds % 2)) left in
    let e = ap length s.bytes_are in
    omega arith

pub reads-segment : (number at next : ℕ) (bytes ds left : List ℕ) (first : RowPtr) (old mid new : List RowPtr) → 0 < length bytes → at ≡ number_of first
    → number < at → StartsWithSegment bytes first ds left → mid ≡ old ++ first ∷ [] → ReadsDeltas at ds mid new next
    → ReadsSegment number bytes old new next left
reads-segment number at next bytes ds left first old mid new some is above t put r0 =
    let r : ReadsDeltas (number_of first) ds mid new next = subst (λ (n : ℕ). ReadsDeltas n ds mid new next) is r0 in
    record {
      got = first ∷ r.got;
      put = r.put ∙ ap (λ (m : List RowPtr). m ++ r.got) put ∙ append_assoc old (first ∷ []) r.got;
      lead = segment-lead number next bytes ds left first mid new some (omega arith) t r;
      shorter = shorter-segment bytes ds left first t;
    }

-- ---- the list of all segments

-- what was read of segments so far
pub lead-start : (number : ℕ) (bytes : List ℕ) → SegmentsLead number bytes number bytes []
lead-start number bytes = record {
  gives = λ rest s. s;
  needs = λ all s. (all, refl, s);
}

pub lead-more : (number last next : ℕ) (bytes now left : List ℕ) (got : List RowPtr) (before after : List RowPtr) → SegmentsLead number bytes last now got
    → (r : ReadsSegment last now before after next left) → SegmentsLead number bytes next left (got ++ r.got)
lead-more number last next bytes now left got before after l r = record {
  gives = λ rest s. subst (AreSegmentsBehind number bytes) (sym (append_assoc got r.got rest)) (l.gives (r.got ++ rest) (r.lead.gives rest s));
  needs = λ all s.
      let before = l.needs all s in
      let step = r.lead.needs before.0 before.2 in
      (step.0, before.1 ∙ ap (λ (m : List RowPtr). got ++ m) step.1 ∙ sym (append_assoc got r.got step.0), step.2);
}

first-behind : (ptr : RowPtr) (others : List RowPtr) → IsStorable ptr → IsBeforeFirst ptr others → AreAscending others
    → AllByRecursion (λ p. p.block < 2 ^ 32) others → AreBehind (number_of ptr) others
first-behind ptr [] s b a f = tt
first-behind ptr (next ∷ others) s b a f = (a.0, f.0, (number-before ptr next s a.0 b, first-behind next others a.0 a.1 a.2 f.1))

-- a list's pointers are behind 0
pub behind-zero : (ptrs : List RowPtr) → AreAscending ptrs → AllByRecursion (λ p. p.block < 2 ^ 32) ptrs → AreBehind 0 ptrs
behind-zero [] a f = tt
behind-zero (ptr ∷ others) a f =
    let from = a.0.from in
    (a.0, f.0, ((let e : 0 < number_of ptr = omega arith in e), first-behind ptr others a.0 a.1 a.2 f.1))

pub before-number : (p q : RowPtr) → IsStorable p → IsStorable q → number_of p < number_of q → IsBefore p q
before-number p q sp sq less = by_blocks (cases_order p.block q.block)
  where
    by_blocks : (p.block ≡ q.block) ⊎ ((p.block < q.block) ⊎ (q.block < p.block)) → IsBefore p q
    by_blocks (inl same) = inr (same, omega arith)
    by_blocks (inr (inl low)) = inl low
    by_blocks (inr (inr high)) = let a = sp.below in let b = sq.below in absurd (omega arith)

first-ascends : (ptr : RowPtr) (others : List RowPtr) → IsStorable ptr → AreBehind (number_of ptr) others → IsBeforeFirst ptr others × AreAscending others
first-ascends ptr [] s b = (tt, tt)
first-ascends ptr (next ∷ others) s b =
    let more = first-ascends next others b.0 b.2.1 in
    (before-number ptr next s b.0 b.2.0, (b.0, more.0, more.1))

pub ascending-behind : (number : ℕ) (ptrs : List RowPtr) → AreBehind number ptrs → AreAscending ptrs
ascending-behind number [] b = tt
ascending-behind number (ptr ∷ others) b = let more = first-ascends ptr others b.0 b.2.1 in (b.0, more.0, more.1)

pub blocks-behind : (number : ℕ) (ptrs : List RowPtr) → AreBehind number ptrs → AllByRecursion (λ p. p.block < 2 ^ 32) ptrs
blocks-behind number [] b = tt
blocks-behind number (ptr ∷ others) b = (b.1, blocks-behind (number_of ptr) others b.2.1)

pub segments-behind : (bytes : List ℕ) (ptrs : List RowPtr) → AreSegmentsOf ptrs bytes → AreSegmentsBehind 0 bytes ptrs
segments-behind bytes ptrs s = record { behind = behind-zero ptrs s.ascending s.blocks; parts = s.parts; each = s.each; whole = s.whole; bytes_are = s.bytes_are }

pub behind-segments : (bytes : List ℕ) (ptrs : List RowPtr) → AreSegmentsBehind 0 bytes ptrs → AreSegmentsOf ptrs bytes
behind-segments bytes ptrs s = record {
  ascending = ascending-behind 0 ptrs s.behind;
  blocks = blocks-behind 0 ptrs s.behind;
  parts = s.parts;
  each = s.each;
  whole = s.whole;
  bytes_are = s.bytes_are;
}

-- ---- what the loop over segments keeps

pub lead-none : (last : ℕ) (bytes now : List ℕ) (got : List RowPtr) → SegmentsLead 0 bytes last now got
    → ((all : List RowPtr) → AreSegmentsBehind last now all → ⊥) → (all : List RowPtr) → AreSegmentsOf all bytes → ⊥
lead-none last bytes now got l none all s = let before = l.needs all (segments-behind bytes all s) in none before.0 before.2

pub lead-end : (last : ℕ) (bytes left : List ℕ) (got : List RowPtr) → SegmentsLead 0 bytes last left got → length left ≤ 0 → AreSegmentsOf got bytes
lead-end last bytes [] got l none =
    behind-segments bytes got
    (subst (AreSegmentsBehind 0 bytes) (append-nil got) (l.gives [] (record { behind = tt; parts = []; each = tt; whole = refl; bytes_are = refl })))
lead-end last bytes (byte ∷ left) got l none = absurd (omega arith)

pub lead-read : (last next : ℕ) (bytes now left : List ℕ) (before after : List RowPtr) → SegmentsLead 0 bytes last now before
    → ReadsSegment last now before after next left → SegmentsLead 0 bytes next left after
lead-read last next bytes now left before after l r = subst (SegmentsLead 0 bytes next left) (sym r.put) (lead-more 0 last next bytes now left before before after l r)
