-- The leaves of a tree, segment by segment.
use Rattle.std.proofs.Common.{◌≡◌, ℕ, ◌+◌, ◌-◌, ◌*◌, ◌%◌, ◌^◌, ◌<◌, ◌≤◌, List, [], ◌∷◌, ◌++◌, length, map, take, drop, get_or, refl, sym, ap, subst, ◌∙◌, arith, length-append, length-drop}
use Rattle.std.specs.Prelude.{Option, Some, None, if◌then◌else◌, nat_eq}
use Rattle.std.specs.List.{AllByRecursion, flat_map, last_or}
use Rattle.std.specs.Option.{unwrap_or}
use Rattle.std.proofs.lemmas.List.{append_assoc, append-nil, length-take-le, length_push, map-append, take-append-drop, take_all, take_more}
use Rattle.std.proofs.lemmas.List.Sums.{sum_by-cons}
use Rattle.pg_bytes.specs.Numbers.{number_bytes}
use Rattle.pg_bytes.specs.Places.{zeros}
use Rattle.pg_bytes.specs.Pointers.{row_pointer_bytes}
use Rattle.pg_bytes.proofs.Writes.{length-number_bytes, length-zeros}
use Rattle.pg_bytes.specs.declared.row_ptr.RowPtr.{RowPtr}
use Rattle.posting_tree.proofs.LevelSteps.{Fills, level-whole, pages-more, pages-none}
use Rattle.posting_tree.proofs.Lists.{all-append, all-push, flat-append}
use Rattle.posting_tree.proofs.Segments.{length-row_pointer}
use Rattle.posting_tree.proofs.Varbytes.{length-varbyte}
use Rattle.posting_tree.specs.Building.{LeafLevelPut, LeavesPut, LeavesTake}
use Rattle.posting_tree.specs.Levels.{fill, greatest, no_link}
use Rattle.posting_tree.specs.PostingTree.{data_page, greatest_pointer, leaf_flags, leaf_kind, zero_pointer}
use Rattle.posting_tree.specs.Segments.{AreAscending, HaveBlocks, IsPart, deltas_behind, number_of, segment, segment_from, varbyte}

-- ---- sizes

-- the bytes of segments are those of each
pub fill-content : (parts : List (List RowPtr)) → fill leaf_kind parts ≡ length (flat_map segment parts)
fill-content [] = refl
fill-content (part ∷ parts) =
    sum_by-cons (λ (p : List RowPtr). length (segment p)) part parts
    ∙ ap (λ (n : ℕ). length (segment part) + n) (fill-content parts)
    ∙ sym (length-append (segment part) (flat_map segment parts))

pub length-deltas : (number : ℕ) (others : List RowPtr) → length (deltas_behind number others) ≤ 7 * length others
length-deltas number [] = omega arith
length-deltas number (ptr ∷ others) =
    let rest = length-deltas (number_of ptr) others in
    let one = length-varbyte (number_of ptr - number) in
    let e = length-append (varbyte (number_of ptr - number)) (deltas_behind (number_of ptr) others) in
    omega arith

pub length-segment : (first : RowPtr) (others : List RowPtr)
    → length (segment_from first others) ≡ 8 + length (deltas_behind (number_of first) others) + length (deltas_behind (number_of first) others) % 2
unfolding segment_from
length-segment first others =
    let ds : List ℕ = deltas_behind (number_of first) others in
    let six = length-row_pointer first in
    let two = length-number_bytes 2 (length ds) in
    let pad = length-zeros (length ds % 2) in
    length-append (row_pointer_bytes first) (number_bytes 2 (length ds) ++ (ds ++ zeros (length ds % 2)))
    ∙ ap (λ (n : ℕ). length (row_pointer_bytes first) + n)
    (length-append (number_bytes 2 (length ds)) (ds ++ zeros (length ds % 2))
    ∙ ap (λ (n : ℕ). length (number_bytes 2 (length ds)) + n) (length-append ds (zeros (length ds % 2))))
    ∙ omega arith

-- a pointer takes eight bytes at most
segment-bound : (part : List RowPtr) → length (segment part) ≤ 8 * length part
segment-bound [] = omega arith
segment-bound (first ∷ others) =
    let e = length-segment first others in
    let d = length-deltas (number_of first) others in
    omega arith

pub content-bound : (parts : List (List RowPtr)) → length (flat_map segment parts) ≤ 8 * length (flat_map (λ part. part) parts)
content-bound [] = omega arith
content-bound (part ∷ parts) =
    let one = segment-bound part in
    let rest = content-bound parts in
    let e = length-append (segment part) (flat_map segment parts) in
    let f = length-append part (flat_map (λ (p : List RowPtr). p) parts) in
    omega arith

-- ---- greatest pointers

pub last_or-push : {X : Type 0} (o : Option X) (xs : List X) (x : X) → last_or o (xs ++ x ∷ []) ≡ Some x
last_or-push o [] x = refl
last_or-push o (y ∷ xs) x = last_or-push (Some y) xs x

-- the last pointer of those that were taken
pub greatest-taken : (ptrs : List RowPtr) (count : ℕ) (d : RowPtr) → 0 < count → count ≤ length ptrs
    → get_or ptrs (count - 1) d ≡ greatest_pointer (take count ptrs)
greatest-taken ptrs count d some inside =
    let at : count - 1 + 1 ≡ count = omega arith in
    sym
    (ap (λ (n : ℕ). greatest_pointer (take n ptrs)) (sym at)
    ∙ ap greatest_pointer (take_more ptrs (count - 1) d (omega arith))
    ∙ ap (λ (o : Option RowPtr). unwrap_or o zero_pointer) (last_or-push None (take (count - 1) ptrs) (get_or ptrs (count - 1) d)))

greatest-push : (parts : List (List RowPtr)) (part : List RowPtr) → greatest leaf_kind (parts ++ part ∷ []) ≡ Some (greatest_pointer part)
greatest-push parts part =
    ap (last_or None) (map-append greatest_pointer parts (part ∷ [])) ∙ last_or-push None (map greatest_pointer parts) (greatest_pointer part)

-- the page of segments, as it is put
pub leaf-page : (right : ℕ) (parts : List (List RowPtr)) (content : List ℕ) (last : RowPtr) → content ≡ flat_map segment parts
    → greatest leaf_kind parts ≡ Some last
    → data_page leaf_flags 0 right (if nat_eq right no_link then zero_pointer else last) content ≡ leaf_kind.image right parts
leaf-page right parts content last is greatest_is =
    ap (λ (bytes : List ℕ). data_page leaf_flags 0 right (if nat_eq right no_link then zero_pointer else last) bytes) is
    ∙ ap (λ (o : Option RowPtr). data_page leaf_flags 0 right (if nat_eq right no_link then zero_pointer else unwrap_or o zero_pointer) (flat_map segment parts)) (sym greatest_is)

-- ---- leaves under way

abbrev flat : List (List RowPtr) → List RowPtr
flat parts = flat_map (λ part. part) parts

some-parts : (parts : List (List RowPtr)) (content : List ℕ) → content ≡ flat_map segment parts → 0 < length content → 0 < length parts
some-parts [] content is some = let e = ap length is in absurd (omega arith)
some-parts (part ∷ parts) content is some = omega arith

pub fills : (parts : List (List RowPtr)) (content : List ℕ) (last : RowPtr) → content ≡ flat_map segment parts → 0 < length content
    → length content ≤ 8152 → greatest leaf_kind parts ≡ Some last → Fills leaf_kind parts last
fills parts content last is some room last_is =
    let size = fill-content parts ∙ ap length (sym is) in
    record { some = some-parts parts content is some; room = omega arith; last = last_is }

-- nothing was taken
pub leaves-none : (old : List ℕ) (first : ℕ) (last : RowPtr) → LeavesPut old old first [] [] last []
leaves-none old first last = record {
  parts = [];
  open_parts = [];
  put = pages-none leaf_kind old first;
  each = tt;
  whole = refl;
  content_is = refl;
  last_is = λ some. absurd (omega arith);
  few = omega arith;
}

-- a segment more
pub leaves-segment : (old now : List ℕ) (first : ℕ) (keys : List RowPtr) (content next : List ℕ) (last : RowPtr) (taken part : List RowPtr)
    → LeavesPut old now first keys content last taken → IsPart part → next ≡ content ++ segment part
    → LeavesPut old now first keys next (greatest_pointer part) (taken ++ part)
leaves-segment old now first keys content next last taken part l is put = record {
  parts = l.parts;
  open_parts = l.open_parts ++ part ∷ [];
  put = l.put;
  each = subst (AllByRecursion IsPart) (append_assoc l.parts l.open_parts (part ∷ [])) (all-push IsPart (l.parts ++ l.open_parts) part l.each is);
  whole =
      ap (λ (t : List RowPtr). t ++ part) l.whole
      ∙ ap (λ (p : List RowPtr). flat_map (λ (q : List RowPtr). q) (l.parts ++ l.open_parts) ++ p) (sym (append-nil part))
      ∙ sym (flat-append (λ (q : List RowPtr). q) (l.parts ++ l.open_parts) (part ∷ []))
      ∙ ap (flat_map (λ (q : List RowPtr). q)) (append_assoc l.parts l.open_parts (part ∷ []));
  content_is =
      put ∙ ap (λ (c : List ℕ). c ++ segment part) l.content_is
      ∙ ap (λ (p : List ℕ). flat_map segment l.open_parts ++ p) (sym (append-nil (segment part)))
      ∙ sym (flat-append segment l.open_parts (part ∷ []));
  last_is = λ some. greatest-push l.open_parts part;
  few = l.few;
}

-- a page more, which is full
pub leaves-page : (old now next : List ℕ) (first : ℕ) (keys : List RowPtr) (content : List ℕ) (last : RowPtr) (taken : List RowPtr) (right : ℕ)
    → LeavesPut old now first keys content last taken → 7768 < length content → length content ≤ 8152 → right ≡ first + length keys + 1
    → ((parts : List (List RowPtr)) → content ≡ flat_map segment parts → greatest leaf_kind parts ≡ Some last → next ≡ now ++ leaf_kind.image right parts)
    → LeavesPut old next first (keys ++ last ∷ []) [] last (taken ++ [])
leaves-page old now next first keys content last taken right l full room right_is put =
    let last_is = l.last_is (omega arith) in
    let f : Fills leaf_kind l.open_parts last = fills l.open_parts content last l.content_is (omega arith) room last_is in
    let size = fill-content l.open_parts ∙ ap length (sym l.content_is) in
    let bytes = content-bound l.open_parts in
    let content_size = ap length l.content_is in
    let keys_size = length_push keys last in
    let few = l.few in
    let flat_size = ap length (flat-append (λ (q : List RowPtr). q) l.parts l.open_parts)
    ∙ length-append (flat_map (λ (q : List RowPtr). q) l.parts) (flat_map (λ (q : List RowPtr). q) l.open_parts) in
    record {
      parts = l.parts ++ l.open_parts;
      open_parts = [];
      put = pages-more leaf_kind old now next first keys l.parts l.open_parts last right l.put f (omega arith) right_is (put l.open_parts l.content_is last_is);
      each = subst (AllByRecursion IsPart) (sym (append-nil (l.parts ++ l.open_parts))) l.each;
      whole = append-nil taken ∙ l.whole ∙ ap (flat_map (λ (q : List RowPtr). q)) (sym (append-nil (l.parts ++ l.open_parts)));
      content_is = refl;
      last_is = λ some. absurd (omega arith);
      few = omega arith;
    }

-- nothing more
pub leaves-same : (old now : List ℕ) (first : ℕ) (keys : List RowPtr) (content : List ℕ) (last : RowPtr) (taken : List RowPtr)
    → LeavesPut old now first keys content last taken → LeavesPut old now first keys content last (taken ++ [])
leaves-same old now first keys content last taken l = subst (LeavesPut old now first keys content last) (sym (append-nil taken)) l

-- the rightmost leaf
pub leaves-whole : (old now next : List ℕ) (first : ℕ) (keys : List RowPtr) (content : List ℕ) (last : RowPtr) (taken : List RowPtr)
    → LeavesPut old now first keys content last taken → 0 < length content → length content ≤ 8152
    → ((parts : List (List RowPtr)) → content ≡ flat_map segment parts → greatest leaf_kind parts ≡ Some last → next ≡ now ++ leaf_kind.image no_link parts)
    → LeafLevelPut old next first (keys ++ last ∷ []) taken
leaves-whole old now next first keys content last taken l some room put =
    let last_is = l.last_is some in
    let keys_size = length_push keys last in
    let few = l.few in
    let flat_size = ap length (flat-append (λ (q : List RowPtr). q) l.parts l.open_parts)
    ∙ length-append (flat_map (λ (q : List RowPtr). q) l.parts) (flat_map (λ (q : List RowPtr). q) l.open_parts) in
    let whole_size = ap length l.whole in
    record {
      parts = l.parts ++ l.open_parts;
      put = level-whole leaf_kind old now next first keys l.parts l.open_parts last l.put
          (fills l.open_parts content last l.content_is some room last_is) (put l.open_parts l.content_is last_is);
      each = l.each;
      whole = l.whole;
      few = omega arith;
    }

-- ---- the pointers that were taken, and those that are left

pub record LeavesTaken (old now : List ℕ) (first : ℕ) (keys : List RowPtr) (content : List ℕ) (last : RowPtr) (ptrs left : List RowPtr) : Type 0 where
  pub taken : List RowPtr
  pub split : ptrs ≡ taken ++ left
  pub ascending : AreAscending left
  pub blocks : HaveBlocks taken
  pub put : LeavesPut old now first keys content last taken

pub taken-none : (old : List ℕ) (first : ℕ) (keys : List RowPtr) (content : List ℕ) (last : RowPtr) (ptrs : List RowPtr) → keys ≡ [] → content ≡ [] → AreAscending ptrs
    → LeavesTaken old old first keys content last ptrs ptrs
taken-none old first keys content last ptrs no_keys no_content a = record {
  taken = [];
  split = refl;
  ascending = a;
  blocks = tt;
  put = subst (λ (k : List RowPtr). LeavesPut old old first k content last []) (sym no_keys)
      (subst (λ (c : List ℕ). LeavesPut old old first [] c last []) (sym no_content) (leaves-none old first last));
}

pub ascending-back : (front back : List RowPtr) → AreAscending (front ++ back) → AreAscending back
ascending-back [] back a = a
ascending-back (ptr ∷ front) back a = ascending-back front back a.2

-- a part that a segment on a leaf holds
small-part : (part : List RowPtr) → 0 < length part → length (segment part) ≤ 384 → IsPart part
small-part [] some small = absurd (omega arith)
small-part (first ∷ others) some small = let e = length-segment first others in record { some = omega arith; counted = omega arith }

pub taken-more : (old now next : List ℕ) (first first' : ℕ) (keys keys' : List RowPtr) (content content' bytes : List ℕ) (last last' : RowPtr)
    (ptrs left : List RowPtr) (count rest : ℕ) (d : RowPtr) → rest ≡ length left - count → LeavesTaken old now first keys content last ptrs left → 0 < count → count ≤ length left
    → bytes ≡ segment (take count left) → length bytes ≤ 384 → HaveBlocks (take count left)
    → ((part : List RowPtr) → IsPart part → bytes ≡ segment part → get_or left (count - 1) d ≡ greatest_pointer part
    → LeavesTake now next first first' keys keys' content content' last last' part)
    → LeavesTaken old next first' keys' content' last' ptrs (take rest (drop count left))
taken-more old now next first first' keys keys' content content' bytes last last' ptrs left count rest d rest_is t some inside are small blocks step =
    let part : List RowPtr = take count left in
    let size : length part ≡ count = length-take-le count left inside in
    let cut : part ++ drop count left ≡ left = take-append-drop count left in
    let is : IsPart part = small-part part (omega arith) (let e = ap length are in omega arith) in
    let all : take rest (drop count left) ≡ drop count left = take_all rest (drop count left) (let e = length-drop count left in omega arith) in
    subst (LeavesTaken old next first' keys' content' last' ptrs) (sym all)
    (record {
      taken = t.taken ++ part;
      split = t.split ∙ ap (λ (l : List RowPtr). t.taken ++ l) (sym cut) ∙ sym (append_assoc t.taken part (drop count left));
      ascending = ascending-back part (drop count left) (subst AreAscending (sym cut) t.ascending);
      blocks = all-append (λ ptr. ptr.block < 2 ^ 32) t.taken part t.blocks blocks;
      put = step part is are (greatest-taken left count d some inside) old t.taken t.put;
    })

-- a segment has bytes
pub some-segment : (ptrs : List RowPtr) (count : ℕ) (bytes : List ℕ) → 0 < count → count ≤ length ptrs → bytes ≡ segment (take count ptrs) → 0 < length bytes
some-segment ptrs count bytes some inside is = by_part (take count ptrs) (length-take-le count ptrs inside) is
  where
    by_part : (part : List RowPtr) → length part ≡ count → bytes ≡ segment part → 0 < length bytes
    by_part [] size are = absurd (omega arith)
    by_part (first ∷ others) size are = let e = ap length are in let f = length-segment first others in omega arith

-- all were taken
pub taken-all : (old now : List ℕ) (first : ℕ) (keys : List RowPtr) (content : List ℕ) (last : RowPtr) (ptrs left : List RowPtr)
    → LeavesTaken old now first keys content last ptrs left → length left ≤ 0 → (HaveBlocks ptrs) × LeavesPut old now first keys content last ptrs
taken-all old now first keys content last ptrs [] t none =
    let whole : t.taken ≡ ptrs = sym (t.split ∙ append-nil t.taken) in
    (subst HaveBlocks whole t.blocks, subst (LeavesPut old now first keys content last) whole t.put)
taken-all old now first keys content last ptrs (ptr ∷ left) t none = absurd (omega arith)

-- how many pages there are
pub few-keys : (old now : List ℕ) (first : ℕ) (keys : List RowPtr) (content : List ℕ) (last : RowPtr) (ptrs left : List RowPtr)
    → LeavesTaken old now first keys content last ptrs left → 4 * length keys ≤ length ptrs
few-keys old now first keys content last ptrs left t =
    let l = t.put in
    let few = l.few in
    let split = ap length t.split ∙ length-append t.taken left in
    let whole = ap length l.whole in
    let flat_size = ap length (flat-append (λ (q : List RowPtr). q) l.parts l.open_parts)
    ∙ length-append (flat_map (λ (q : List RowPtr). q) l.parts) (flat_map (λ (q : List RowPtr). q) l.open_parts) in
    omega arith
