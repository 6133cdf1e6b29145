-- Bytes are the segments of one list of pointers, and a tree is read as one.
use Rattle.std.proofs.Common.{◌≡◌, ℕ, ◌-◌, ◌^◌, ◌<◌, ◌≤◌, List, [], ◌∷◌, ◌++◌, length, refl, sym, ap, subst, ◌∙◌, arith, length-append}
use Rattle.std.specs.List.{AllByRecursion, AllZip, flat_map}
use Rattle.std.specs.Prelude.{Some}
use Rattle.std.proofs.lemmas.List.{append-nil}
use Rattle.pg_bytes.specs.declared.row_ptr.RowPtr.{RowPtr}
use Rattle.posting_tree.proofs.Heads.{segment-one}
use Rattle.posting_tree.proofs.LeafSteps.{length-deltas, length-segment}
use Rattle.posting_tree.proofs.ReadDeltas.{number-one, told-delta, first-delta}
use Rattle.posting_tree.proofs.ReadSegments.{FirstSegment, behind-front, first-segment, front-segment, segments-behind}
use Rattle.posting_tree.proofs.ReadVarbytes.{varbyte-some}
use Rattle.posting_tree.specs.Pass.{AreBehind, AreDeltasOf, AreSegmentsBehind, StartsWithSegment, last_number}
use Rattle.posting_tree.specs.PostingTree.{IsReadAs}
use Rattle.posting_tree.specs.Segments.{AreAscending, AreSegmentsOf, HaveBlocks, IsPart, deltas, deltas_behind, number_of, segment, segment_from, varbyte}

some-deltas : (number : ℕ) (ptr : RowPtr) (others : List RowPtr) → 0 < length (deltas_behind number (ptr ∷ others))
some-deltas number ptr others =
    let some = varbyte-some (number_of ptr - number) in
    let e = length-append (varbyte (number_of ptr - number)) (deltas_behind (number_of ptr) others) in
    omega arith

-- bytes are the deltas of one list
pub deltas-one : (number : ℕ) (bytes : List ℕ) (ptrs others : List RowPtr) → AreDeltasOf number bytes ptrs → AreDeltasOf number bytes others → ptrs ≡ others
deltas-one number bytes [] [] a b = refl
deltas-one number bytes [] (q ∷ others) a b =
    let some = some-deltas number q others in
    let e = ap length (sym a.bytes_are ∙ b.bytes_are) in
    absurd (omega arith)
deltas-one number bytes (p ∷ ptrs) [] a b =
    let some = some-deltas number p ptrs in
    let e = ap length (sym b.bytes_are ∙ a.bytes_are) in
    absurd (omega arith)
deltas-one number bytes (p ∷ ptrs) (q ∷ others) a b =
    let told = told-delta number (number_of p - number) bytes (deltas_behind (number_of p) ptrs) q others b (first-delta number bytes p ptrs a) in
    let gap = told.0 in
    let above = a.behind.2.0 in
    let above' = b.behind.2.0 in
    let one : p ≡ q = number-one p q a.behind.0 b.behind.0 (omega arith) in
    let at : number_of q ≡ number_of p = ap number_of (sym one) in
    let rest : AreDeltasOf (number_of p) (deltas_behind (number_of p) ptrs) others = record {
      behind = subst (λ (n : ℕ). AreBehind n others) at b.behind.2.1;
      bytes_are = told.1 ∙ ap (λ (n : ℕ). deltas_behind n others) at;
    } in
    ap (λ (x : RowPtr). x ∷ ptrs) one
    ∙ ap (λ (l : List RowPtr). q ∷ l) (deltas-one (number_of p) (deltas_behind (number_of p) ptrs) ptrs others (record { behind = a.behind.2.1; bytes_are = refl }) rest)

-- no bytes are the segments of no pointers
no-bytes : (number : ℕ) (others : List RowPtr) → AreSegmentsBehind number [] others → others ≡ []
no-bytes number others s = by_parts s.parts s.each s.whole s.bytes_are
  where
    by_parts : (parts : List (List RowPtr)) → AllByRecursion IsPart parts → others ≡ flat_map (λ part. part) parts → [] ≡ flat_map segment parts → others ≡ []
    by_parts [] each whole is = whole
    by_parts ([] ∷ parts) each whole is = let e = each.0.some in absurd (omega arith)
    by_parts ((first ∷ rest) ∷ parts) each whole is =
        let e = ap length is in
        let f = length-segment first rest in
        let g = length-append (segment_from first rest) (flat_map segment parts) in
        absurd (omega arith)

-- bytes are the segments of one list, by how many segments one of them has
behind-one : (parts : List (List RowPtr)) (number : ℕ) (bytes : List ℕ) (others : List RowPtr) → AllByRecursion IsPart parts → bytes ≡ flat_map segment parts
    → AreBehind number (flat_map (λ part. part) parts) → AreSegmentsBehind number bytes others → flat_map (λ part. part) parts ≡ others
behind-one [] number bytes others each is behind s = sym (no-bytes number others (subst (λ (b : List ℕ). AreSegmentsBehind number b others) is s))
behind-one ([] ∷ parts) number bytes others each is behind s = let e = each.0.some in absurd (omega arith)
behind-one ((first ∷ rest) ∷ parts) number bytes others each is behind s =
    let size = length-segment first rest in
    let more = length-append (segment_from first rest) (flat_map segment parts) in
    let count = ap length is in
    let some : 0 < length bytes = omega arith in
    let left : List ℕ = flat_map segment parts in
    let ds : List ℕ = deltas_behind (number_of first) rest in
    let cut = behind-front (number_of first) rest (flat_map (λ part. part) parts) behind.2.1 in
    let mine : StartsWithSegment bytes first ds left = front-segment bytes left first rest behind.0 behind.1 each.0.counted is in
    let f : FirstSegment number bytes others = first-segment number bytes others some s in
    let same = segment-one bytes first f.first ds _ left f.left mine f.starts in
    let at : number_of f.first ≡ number_of first = ap number_of (sym same.0) in
    let inner : rest ≡ f.others =
    deltas-one (number_of first) ds rest f.others (record { behind = cut.0; bytes_are = refl })
    (subst (λ (n : ℕ). AreDeltasOf n ds f.others) at (subst (λ (d : List ℕ). AreDeltasOf (number_of f.first) d f.others) (sym same.1) f.deltas)) in
    let last : last_number (number_of f.first) f.others ≡ last_number (number_of first) rest =
    ap (λ (n : ℕ). last_number n f.others) at ∙ ap (last_number (number_of first)) (sym inner) in
    let tail : flat_map (λ part. part) parts ≡ f.rest =
    behind-one parts (last_number (number_of first) rest) left f.rest each.1 refl cut.1
    (subst (λ (n : ℕ). AreSegmentsBehind n left f.rest) last
    (subst (λ (l : List ℕ). AreSegmentsBehind (last_number (number_of f.first) f.others) l f.rest) (sym same.2) f.next)) in
    ap (λ (t : List RowPtr). first ∷ (rest ++ t)) tail
    ∙ ap (λ (r : List RowPtr). first ∷ (r ++ f.rest)) inner
    ∙ ap (λ (p : RowPtr). p ∷ (f.others ++ f.rest)) same.0
    ∙ sym f.all_is

pub segments-one : (bytes : List ℕ) (ptrs others : List RowPtr) → AreSegmentsOf ptrs bytes → AreSegmentsOf others bytes → ptrs ≡ others
segments-one bytes ptrs others a b =
    let mine = segments-behind bytes ptrs a in
    a.whole
    ∙ behind-one a.parts 0 bytes others a.each a.bytes_are (subst (AreBehind 0) a.whole mine.behind) (segments-behind bytes others b)

-- ---- the segment of pointers

-- as few as one segment takes
small-deltas : (ptrs : List RowPtr) → length ptrs ≤ 9000 → length (deltas ptrs) < 2 ^ 16
small-deltas [] few = omega arith
small-deltas (first ∷ others) few = let e = length-deltas (number_of first) others in omega arith

pub segment-of : (ptrs : List RowPtr) → 0 < length ptrs → length ptrs ≤ 9000 → AreAscending ptrs → HaveBlocks ptrs → AreSegmentsOf ptrs (segment ptrs)
segment-of ptrs some few ascending blocks = record {
  ascending = ascending;
  blocks = blocks;
  parts = ptrs ∷ [];
  each = (record { some = some; counted = small-deltas ptrs few }, tt);
  whole = sym (append-nil ptrs);
  bytes_are = sym (append-nil (segment ptrs));
}

-- ---- the reading of a tree

some-one : {X : Type 0} (x y : X) → Some x ≡ Some y → x ≡ y
some-one x y e = cc

lists-one : (lists others : List (List RowPtr)) (contents : List (List ℕ)) → AllZip AreSegmentsOf lists contents → AllZip AreSegmentsOf others contents → lists ≡ others
lists-one [] [] contents a b = refl
lists-one [] (o ∷ others) [] a b = absurd b
lists-one [] (o ∷ others) (c ∷ contents) a b = absurd a
lists-one (l ∷ lists) [] [] a b = absurd a
lists-one (l ∷ lists) [] (c ∷ contents) a b = absurd b
lists-one (l ∷ lists) (o ∷ others) [] a b = absurd a
lists-one (l ∷ lists) (o ∷ others) (c ∷ contents) a b =
    ap (λ (x : List RowPtr). x ∷ lists) (segments-one c l o a.0 b.0) ∙ ap (λ (xs : List (List RowPtr)). o ∷ xs) (lists-one lists others contents a.1 b.1)

pub readings-one : (file : List ℕ) (root : ℕ) (ptrs others : List RowPtr) → IsReadAs file root ptrs → IsReadAs file root others → ptrs ≡ others
readings-one file root ptrs others a b =
    let same : a.contents ≡ b.contents = some-one a.contents b.contents (sym a.found ∙ b.found) in
    let lists : a.lists ≡ b.lists = lists-one a.lists b.lists b.contents (subst (AllZip AreSegmentsOf a.lists) same a.each) b.each in
    a.whole ∙ ap (flat_map (λ (list : List RowPtr). list)) lists ∙ sym b.whole
