-- What a tuple of the entry tree says.
use Rattle.std.proofs.Common.{◌≡◌, ◌+◌, ◌-◌, ◌^◌, ◌<◌, ◌≤◌, ◌↔◌, ℕ, List, ◌++◌, length, drop, Bool, true, false, sym, ap, subst, ◌∙◌, arith, Some, None, IfOk, IsTrue, MatchOption}
use Rattle.std.specs.Prelude.{Option, Result, Ok, Err}
use Rattle.std.proofs.lemmas.List.{drop_at}
use Rattle.pg_bytes.specs.Pointers.{row_pointer_at}
use Rattle.pg_bytes.specs.Places.{zeros}
use Rattle.pg_bytes.specs.declared.row_ptr.RowPtr.{RowPtr}
use Rattle.opclass.specs.declared.types.ColType.{ColType}
use Rattle.gin_entry.specs.declared.entry.Entry.{Entry}
use Rattle.gin_entry.specs.EntrySize.{entry_size, list_place}
use Rattle.posting_tree.specs.Segments.{AreAscending, HaveBlocks, segment}
use Rattle.gin_file.specs.Entry.{IsEntryOf}
use Rattle.gin_file.specs.EntryTuple.{key_part, leading_tuple, list_end, list_front, list_size, list_tuple}
use Rattle.gin_file.specs.Item.{IsListIn, IsTupleOf}
use Rattle.gin_file.specs.Pass.{BeginsWithEntry, BeginsWithSegment}
use Rattle.gin_file.specs.declared.entry_reading.EntryItem.{EntryItem}
use Rattle.gin_file.specs.declared.entry_reading.EntryItem.TheVariants as item
use Rattle.gin_file.proofs.EntryTuples.{length-key_part, length-leading_tuple, length-list_tuple}
use Rattle.gin_file.proofs.SegmentFronts.{long-segment, segment-least}
use Rattle.gin_file.proofs.TupleFronts.{front-read}

-- ---- an entry with its list

-- a list in a tuple has fewer pointers than the tuple has bytes
pub few-listed : (kind : ColType) (entry : Entry) (pointers : List RowPtr) → IsListIn kind entry pointers → length pointers ≤ 2712
few-listed kind entry pointers is = let least = segment-least pointers in let small = is.small in omega arith

-- such a list, by its segment
pub listed : (kind : ColType) (entry : Entry) (pointers : List RowPtr) → 0 < length pointers → AreAscending pointers → HaveBlocks pointers
    → list_place kind entry + length (segment pointers) ≤ 2712 → IsListIn kind entry pointers
listed kind entry pointers some ascending blocks fits = record {
  ascending = ascending;
  blocks = blocks;
  segment = record { some = some; counted = let long = long-segment pointers some in omega arith };
  small = omega arith;
}

-- bytes are its tuple exactly where they are the bytes that were put
pub list-answer : (kind : ColType) (entry : Entry) (pointers : List RowPtr) (bytes tuple list : List ℕ) (same : Bool)
    → 0 < length pointers → AreAscending pointers → HaveBlocks pointers
    → list ≡ segment pointers → list_place kind entry + length list ≤ 2712 → tuple ≡ list_tuple kind entry pointers
    → (IsTrue same ↔ (tuple ≡ bytes))
    → (IsTrue same ↔ IsListIn kind entry pointers × (bytes ≡ list_tuple kind entry pointers))
list-answer kind entry pointers bytes tuple list same some ascending blocks is fits put equal =
    let long = ap length is in (
      (λ yes. (listed kind entry pointers some ascending blocks (omega arith), sym (equal.0 yes) ∙ put)),
      (λ both. equal.1 (put ∙ sym both.1)),
    )

-- ---- a tuple begins with its entry

pub list-begins : (kind : ColType) (bytes : List ℕ) (entry : Entry) (pointers : List RowPtr) → IsTupleOf kind true bytes (item.List entry pointers)
    → BeginsWithEntry kind bytes entry
unfolding list_tuple
list-begins kind bytes entry pointers t = record {
  entry_is = t.is_item.0;
  front = list_front kind entry pointers;
  size = list_size kind entry pointers;
  small = let small = t.is_item.1.small in omega arith;
  rest = segment pointers ++ zeros (list_size kind entry pointers - list_end kind entry pointers);
  bytes_are = t.bytes_are;
}

pub leading-begins : (kind : ColType) (bytes : List ℕ) (entry : Entry) (front : RowPtr) → IsEntryOf kind entry → entry_size kind entry < 2 ^ 13
    → bytes ≡ leading_tuple kind entry front → BeginsWithEntry kind bytes entry
unfolding leading_tuple
leading-begins kind bytes entry front is small are = record {
  entry_is = is;
  front = front;
  size = entry_size kind entry;
  small = small;
  rest = zeros (entry_size kind entry - list_place kind entry);
  bytes_are = are;
}

-- a list's segment stands behind the entry
pub segment-begins : (kind : ColType) (bytes : List ℕ) (entry : Entry) (pointers : List RowPtr) → IsTupleOf kind true bytes (item.List entry pointers)
    → BeginsWithSegment (drop (list_place kind entry) bytes) pointers
unfolding list_tuple
segment-begins kind bytes entry pointers t =
    let part : List ℕ = key_part kind entry (list_front kind entry pointers) (list_size kind entry pointers) in
    let rest : List ℕ = zeros (list_size kind entry pointers - list_end kind entry pointers) in
    record {
      ascending = t.is_item.1.ascending;
      blocks = t.is_item.1.blocks;
      part = t.is_item.1.segment;
      rest = rest;
      bytes_are = ap (drop (list_place kind entry)) t.bytes_are
          ∙ drop_at part (segment pointers ++ rest) (list_place kind entry)
          (length-key_part kind entry (list_front kind entry pointers) (list_size kind entry pointers) t.is_item.0.entry_is);
    }

-- its place and its sizes
pub record ListSizes (kind : ColType) (bytes : List ℕ) (entry : Entry) : Type 0 where
  pub most : length bytes ≤ 2712
  pub small : entry_size kind entry ≤ 2712
  pub place : list_place kind entry ≤ length bytes

pub list-sizes : (kind : ColType) (bytes : List ℕ) (entry : Entry) (pointers : List RowPtr) → IsTupleOf kind true bytes (item.List entry pointers)
    → ListSizes kind bytes entry
list-sizes kind bytes entry pointers t =
    let long = ap length t.bytes_are ∙ length-list_tuple kind entry pointers t.is_item.0.entry_is in
    let small = t.is_item.1.small in
    record { most = omega arith; small = omega arith; place = omega arith }

-- what was read of the segment
pub pointers-only : {E : Type 0} (kind : ColType) (bytes slice : List ℕ) (entry : Entry) (result : Result (Option (List RowPtr)) E)
    → IfOk result (λ answer. (pointers : List RowPtr) → BeginsWithSegment slice pointers → answer ≡ Some pointers)
    → slice ≡ drop (list_place kind entry) bytes
    → IfOk result (λ answer. (pointers : List RowPtr) → IsTupleOf kind true bytes (item.List entry pointers) → answer ≡ Some pointers)
pointers-only kind bytes slice entry (Ok answer) only is =
    λ pointers t. only pointers (subst (λ (l : List ℕ). BeginsWithSegment l pointers) (sym is) (segment-begins kind bytes entry pointers t))
pointers-only kind bytes slice entry (Err e) only is = tt

-- ---- any tuple

-- it begins with an entry
unfoldable pub tuple-begins : (kind : ColType) (leaf : Bool) (bytes : List ℕ) (said : EntryItem) → IsTupleOf kind leaf bytes said
    → (entry : Entry) × BeginsWithEntry kind bytes entry
tuple-begins kind true bytes (item.List entry pointers) t = (entry, list-begins kind bytes entry pointers t)
tuple-begins kind true bytes (item.Tree entry root) t =
    (entry, leading-begins kind bytes entry _ t.is_item.0 t.is_item.1.size t.bytes_are)
tuple-begins kind true bytes (item.Inner entry child) t = absurd t.is_item
tuple-begins kind false bytes (item.List entry pointers) t = absurd t.is_item
tuple-begins kind false bytes (item.Tree entry root) t = absurd t.is_item
tuple-begins kind false bytes (item.Inner entry child) t =
    (entry, leading-begins kind bytes entry _ t.is_item.0 t.is_item.1.size t.bytes_are)

-- its size has 13 bits
pub tuple-small : (kind : ColType) (leaf : Bool) (bytes : List ℕ) (said : EntryItem) → IsTupleOf kind leaf bytes said → length bytes < 8192
tuple-small kind true bytes (item.List entry pointers) t = let s = (list-sizes kind bytes entry pointers t).most in omega arith
tuple-small kind true bytes (item.Tree entry root) t =
    let long = ap length t.bytes_are ∙ length-leading_tuple kind entry (record { block = root; offset = 0xFFFF }) t.is_item.0.entry_is in
    let small = t.is_item.1.size in
    omega arith
tuple-small kind true bytes (item.Inner entry child) t = absurd t.is_item
tuple-small kind false bytes (item.List entry pointers) t = absurd t.is_item
tuple-small kind false bytes (item.Tree entry root) t = absurd t.is_item
tuple-small kind false bytes (item.Inner entry child) t =
    let long = ap length t.bytes_are ∙ length-leading_tuple kind entry (record { block = child; offset = 0 }) t.is_item.0.entry_is in
    let small = t.is_item.1.size in
    omega arith

-- what stands in the place of its row pointer
pub leading-front : (kind : ColType) (bytes : List ℕ) (entry : Entry) (front : RowPtr) → IsEntryOf kind entry → entry_size kind entry < 2 ^ 13
    → bytes ≡ leading_tuple kind entry front → front.block < 2 ^ 32 → front.offset < 2 ^ 16 → row_pointer_at bytes 0 ≡ front
unfolding leading-begins
leading-front kind bytes entry front is small are block offset =
    front-read kind bytes entry (leading-begins kind bytes entry front is small are) block offset

pub list-offset : (kind : ColType) (bytes : List ℕ) (entry : Entry) (pointers : List RowPtr) → IsTupleOf kind true bytes (item.List entry pointers)
    → (row_pointer_at bytes 0).offset ≡ length pointers
unfolding list-begins
list-offset kind bytes entry pointers t =
    let few = few-listed kind entry pointers t.is_item.1 in
    let place = (list-sizes kind bytes entry pointers t).place in
    let most = (list-sizes kind bytes entry pointers t).most in
    ap (λ (p : RowPtr). p.offset) (front-read kind bytes entry (list-begins kind bytes entry pointers t) (omega arith) (omega arith))

-- ---- what was read

-- the entry of the tuple is the one that was read
same-entry : (kind : ColType) (bytes : List ℕ) (entry other : Entry) → ((e : Entry) → BeginsWithEntry kind bytes e → Some entry ≡ Some e)
    → BeginsWithEntry kind bytes other → entry ≡ other
same-entry kind bytes entry other only b = let same = only other b in cc

pub inner-read : {E : Type 0} (kind : ColType) (bytes : List ℕ) (entry : Entry) (child : ℕ) (result : Result (Option EntryItem) E)
    → IfOk result (λ answer. MatchOption answer
    (IsTupleOf kind false bytes (item.Inner entry child) → ⊥)
    (λ said. (said ≡ item.Inner entry child) × IsTupleOf kind false bytes said))
    → ((e : Entry) → BeginsWithEntry kind bytes e → Some entry ≡ Some e)
    → child ≡ (row_pointer_at bytes 0).block
    → IfOk result (λ answer. MatchOption answer ((said : EntryItem) → IsTupleOf kind false bytes said → ⊥) (IsTupleOf kind false bytes))
unfolding tuple-begins
inner-read kind bytes entry child (Err e) read only is = tt
inner-read kind bytes entry child (Ok (Some said)) read only is = read.1
inner-read kind bytes entry child (Ok None) read only is = none
  where
    none : (said : EntryItem) → IsTupleOf kind false bytes said → ⊥
    none (item.List other pointers) t = t.is_item
    none (item.Tree other root) t = t.is_item
    none (item.Inner other block) t =
        let begins = (tuple-begins kind false bytes (item.Inner other block) t).1 in
        let same = same-entry kind bytes entry other only begins in
        let front = ap (λ (p : RowPtr). p.block) (leading-front kind bytes other (record { block = block; offset = 0 }) t.is_item.0 t.is_item.1.size t.bytes_are t.is_item.1.block_is (omega arith)) in
        read (subst (λ (e : Entry). IsTupleOf kind false bytes (item.Inner e child)) (sym same)
        (subst (λ (b : ℕ). IsTupleOf kind false bytes (item.Inner other b)) (sym (is ∙ front)) t))

pub tree-read : {E : Type 0} (kind : ColType) (bytes : List ℕ) (entry : Entry) (root : ℕ) (result : Result (Option EntryItem) E)
    → IfOk result (λ answer. MatchOption answer
    (IsTupleOf kind true bytes (item.Tree entry root) → ⊥)
    (λ said. (said ≡ item.Tree entry root) × IsTupleOf kind true bytes said))
    → ((e : Entry) → BeginsWithEntry kind bytes e → Some entry ≡ Some e)
    → root ≡ (row_pointer_at bytes 0).block → (row_pointer_at bytes 0).offset ≡ 0xFFFF
    → IfOk result (λ answer. MatchOption answer ((said : EntryItem) → IsTupleOf kind true bytes said → ⊥) (IsTupleOf kind true bytes))
unfolding tuple-begins
tree-read kind bytes entry root (Err e) read only is mark = tt
tree-read kind bytes entry root (Ok (Some said)) read only is mark = read.1
tree-read kind bytes entry root (Ok None) read only is mark = none
  where
    none : (said : EntryItem) → IsTupleOf kind true bytes said → ⊥
    none (item.List other pointers) t =
        let count = list-offset kind bytes other pointers t in
        let few = few-listed kind other pointers t.is_item.1 in
        absurd (omega arith)
    none (item.Inner other child) t = t.is_item
    none (item.Tree other block) t =
        let begins = (tuple-begins kind true bytes (item.Tree other block) t).1 in
        let same = same-entry kind bytes entry other only begins in
        let front = ap (λ (p : RowPtr). p.block) (leading-front kind bytes other (record { block = block; offset = 0xFFFF }) t.is_item.0 t.is_item.1.size t.bytes_are t.is_item.1.block_is (omega arith)) in
        read (subst (λ (e : Entry). IsTupleOf kind true bytes (item.Tree e root)) (sym same)
        (subst (λ (b : ℕ). IsTupleOf kind true bytes (item.Tree other b)) (sym (is ∙ front)) t))

pub list-read : {E : Type 0} (kind : ColType) (bytes : List ℕ) (entry : Entry) (result : Result (Option EntryItem) E)
    → IfOk result (λ answer. MatchOption answer
    ((pointers : List RowPtr) → IsTupleOf kind true bytes (item.List entry pointers) → ⊥)
    (IsTupleOf kind true bytes))
    → ((e : Entry) → BeginsWithEntry kind bytes e → Some entry ≡ Some e)
    → ((row_pointer_at bytes 0).offset ≡ 0xFFFF → ⊥)
    → IfOk result (λ answer. MatchOption answer ((said : EntryItem) → IsTupleOf kind true bytes said → ⊥) (IsTupleOf kind true bytes))
unfolding tuple-begins
list-read kind bytes entry (Err e) read only other_mark = tt
list-read kind bytes entry (Ok (Some said)) read only other_mark = read
list-read kind bytes entry (Ok None) read only other_mark = none
  where
    none : (said : EntryItem) → IsTupleOf kind true bytes said → ⊥
    none (item.List other pointers) t =
        let begins = (tuple-begins kind true bytes (item.List other pointers) t).1 in
        let same = same-entry kind bytes entry other only begins in
        read pointers (subst (λ (e : Entry). IsTupleOf kind true bytes (item.List e pointers)) (sym same) t)
    none (item.Inner other child) t = t.is_item
    none (item.Tree other block) t =
        other_mark (ap (λ (p : RowPtr). p.offset) (leading-front kind bytes other (record { block = block; offset = 0xFFFF }) t.is_item.0 t.is_item.1.size t.bytes_are t.is_item.1.block_is (omega arith)))
