-- Bytes are the tuple of one item at most.
use Rattle.std.proofs.Common.{◌≡◌, ◌+◌, ◌%◌, ◌^◌, ◌<◌, ◌≤◌, ℕ, List, [], ◌∷◌, length, take, drop, Bool, true, false, refl, sym, ap, subst, ◌∙◌, arith, inl, inr}
use Rattle.std.proofs.lemmas.Bool.{cases_lt}
use Rattle.std.proofs.lemmas.List.{length-drop}
use Rattle.std.proofs.lemmas.List.Elements.{All-cons, All-nil}
use Rattle.pg_bytes.specs.Numbers.{number_at}
use Rattle.pg_bytes.specs.Pointers.{row_pointer_at}
use Rattle.pg_bytes.specs.declared.row_ptr.RowPtr.{RowPtr}
use Rattle.opclass.specs.declared.types.ColType.{ColType}
use Rattle.opclass.specs.declared.types.Form.{Form}
use Rattle.opclass.specs.declared.types.Form.TheVariants.{Truth, Signed, Unsigned, Bytes, Array}
use Rattle.opclass.specs.declared.value.KeyVal.{KeyVal}
use Rattle.opclass.specs.declared.value.KeyVal.TheVariants.{Nil}
use Rattle.opclass.specs.Types.{facts_of}
use Rattle.tuple_data.specs.Reading.{IsStored}
use Rattle.tuple_data.proofs.OneReading.{reading_once}
use Rattle.gin_entry.specs.declared.entry.Entry.{Entry}
use Rattle.gin_entry.specs.EntrySize.{list_place}
use Rattle.posting_tree.specs.Segments.{AreSegmentsOf, deltas, segment}
use Rattle.posting_tree.proofs.OneList.{segments-one}
use Rattle.gin_file.specs.Entry.{IsKeyOf}
use Rattle.gin_file.specs.Item.{IsTupleOf}
use Rattle.gin_file.specs.Pass.{BeginsWithEntry, BeginsWithKey, BeginsWithSegment}
use Rattle.gin_file.specs.declared.entry_reading.EntryItem.{EntryItem}
use Rattle.gin_file.specs.declared.entry_reading.EntryItem.TheVariants as item
use Rattle.gin_file.proofs.EntryItems.{few-listed, leading-front, list-offset, segment-begins, tuple-begins, tuple-small}
use Rattle.gin_file.proofs.EntryTuples.{key-or-not}
use Rattle.gin_file.proofs.SegmentFronts.{end_of, front-of, one-segment}
use Rattle.gin_file.proofs.TupleFronts.{element-stored, key-begins, key-front, placeholder-front}

-- ---- one entry

first-same : (a b : KeyVal) → a ∷ [] ≡ b ∷ [] → a ≡ b
first-same a b same = cc

head-same : (a b : ℕ) (rest others : List ℕ) → a ∷ rest ≡ b ∷ others → a ≡ b
head-same a b rest others same = cc

entries-same : (one other : Entry) → one.category ≡ other.category → one.key ≡ other.key → one ≡ other
entries-same one other category key = λ i. record { category = category i; key = key i }

-- bytes begin with the data of one key at most
one-key : (kind : ColType) (bytes : List ℕ) (one other : Entry) → length bytes < 2 ^ 30 → BeginsWithKey kind bytes one → BeginsWithKey kind bytes other
    → one ≡ other
one-key kind bytes one other few a b = by (facts_of kind).form refl a.entry_is.key
  where
    by : (form : Form) → (facts_of kind).form ≡ form → IsKeyOf form one.key → one ≡ other
    by (Array element) is key =
        entries-same one other (a.of_key ∙ sym b.of_key) (first-same one.key other.key
        (reading_once (element ∷ []) 1 bytes (one.key ∷ []) (other.key ∷ [])
        (All-cons (λ k. IsStored (facts_of k).form) element [] (element-stored kind element is) (All-nil (λ (k : ColType). IsStored (facts_of k).form)))
        few (key-begins kind element bytes one is a) (key-begins kind element bytes other is b)))
    by Truth is key = absurd key
    by Signed is key = absurd key
    by Unsigned is key = absurd key
    by Bytes is key = absurd key

-- an entry with a category of its own has no key
no-key : (kind : ColType) (bytes : List ℕ) (entry : Entry) → BeginsWithEntry kind bytes entry → 1 ≤ entry.category → entry.key ≡ Nil
no-key kind bytes entry b some =
    elim (key-or-not entry b.entry_is.entry_is) [
      | inl key ↦ let zero = key.0 in absurd (omega arith)
      | inr placeholder ↦ placeholder.2
    ]

-- bytes begin as the tuple of one entry at most
pub one-entry : (kind : ColType) (bytes : List ℕ) (one other : Entry) → length bytes < 8192 → BeginsWithEntry kind bytes one → BeginsWithEntry kind bytes other
    → one ≡ other
one-entry kind bytes one other few a b =
    elim (cases_lt (number_at 2 bytes 6) 0x8000) [
      | inl low ↦
          let cut = length-drop 8 bytes in
          one-key kind (drop 8 bytes) one other (omega arith) (key-front kind bytes one a low) (key-front kind bytes other b low)
      | inr high ↦
          let mine = placeholder-front kind bytes one a high in
          let yours = placeholder-front kind bytes other b high in
          entries-same one other (head-same one.category other.category mine.rest yours.rest (sym mine.behind ∙ yours.behind))
          (no-key kind bytes one a mine.some ∙ sym (no-key kind bytes other b yours.some))
    ]

-- ---- one list

-- bytes begin with one segment at most
one-list : (bytes : List ℕ) (one other : List RowPtr) → BeginsWithSegment bytes one → BeginsWithSegment bytes other → one ≡ other
one-list bytes one other a b =
    let mine = front-of bytes one a in
    let yours = front-of bytes other b in
    let many : length (deltas one) ≡ length (deltas other) = sym mine.count ∙ yours.count in
    let end : end_of one ≡ end_of other = ap (λ (n : ℕ). 8 + n + n % 2) many in
    let same : segment one ≡ segment other = sym mine.front ∙ ap (λ (n : ℕ). take n bytes) end ∙ yours.front in
    segments-one (segment one) one other (one-segment bytes one a)
    (subst (AreSegmentsOf other) (sym same) (one-segment bytes other b))

-- ---- one item

entries-of : (kind : ColType) (leaf : Bool) (bytes : List ℕ) (one other : EntryItem) (t : IsTupleOf kind leaf bytes one) (u : IsTupleOf kind leaf bytes other)
    → (tuple-begins kind leaf bytes one t).0 ≡ (tuple-begins kind leaf bytes other u).0
entries-of kind leaf bytes one other t u =
    one-entry kind bytes _ _ (tuple-small kind leaf bytes one t) (tuple-begins kind leaf bytes one t).1 (tuple-begins kind leaf bytes other u).1

-- a tuple that leads to a block has one mark in the place of an offset
mark-of : (kind : ColType) (bytes : List ℕ) (entry : Entry) (root : ℕ) → IsTupleOf kind true bytes (item.Tree entry root)
    → row_pointer_at bytes 0 ≡ record { block = root; offset = 0xFFFF }
mark-of kind bytes entry root t =
    leading-front kind bytes entry (record { block = root; offset = 0xFFFF }) t.is_item.0 t.is_item.1.size t.bytes_are t.is_item.1.block_is (omega arith)

child-of : (kind : ColType) (bytes : List ℕ) (entry : Entry) (child : ℕ) → IsTupleOf kind false bytes (item.Inner entry child)
    → row_pointer_at bytes 0 ≡ record { block = child; offset = 0 }
child-of kind bytes entry child t =
    leading-front kind bytes entry (record { block = child; offset = 0 }) t.is_item.0 t.is_item.1.size t.bytes_are t.is_item.1.block_is (omega arith)

-- the mark is no count of pointers
list-or-tree : (kind : ColType) (bytes : List ℕ) (entry other : Entry) (pointers : List RowPtr) (root : ℕ) → IsTupleOf kind true bytes (item.List entry pointers)
    → IsTupleOf kind true bytes (item.Tree other root) → ⊥
list-or-tree kind bytes entry other pointers root t u =
    let count = list-offset kind bytes entry pointers t in
    let few = few-listed kind entry pointers t.is_item.1 in
    let mark : (row_pointer_at bytes 0).offset ≡ 0xFFFF = ap (λ (p : RowPtr). p.offset) (mark-of kind bytes other root u) in
    omega arith

pub one-item : (kind : ColType) (leaf : Bool) (bytes : List ℕ) (one other : EntryItem) → IsTupleOf kind leaf bytes one → IsTupleOf kind leaf bytes other
    → one ≡ other
unfolding tuple-begins
one-item kind true bytes (item.List entry pointers) (item.List other others) t u =
    let same : entry ≡ other = entries-of kind true bytes (item.List entry pointers) (item.List other others) t u in
    let lists : pointers ≡ others =
    one-list (drop (list_place kind other) bytes) pointers others
    (subst (λ (e : Entry). BeginsWithSegment (drop (list_place kind e) bytes) pointers) same (segment-begins kind bytes entry pointers t))
    (segment-begins kind bytes other others u) in
    λ i. item.List (same i) (lists i)
one-item kind true bytes (item.Tree entry root) (item.Tree other block) t u =
    let same : entry ≡ other = entries-of kind true bytes (item.Tree entry root) (item.Tree other block) t u in
    let roots : root ≡ block = ap (λ (p : RowPtr). p.block) (sym (mark-of kind bytes entry root t) ∙ mark-of kind bytes other block u) in
    λ i. item.Tree (same i) (roots i)
one-item kind true bytes (item.List entry pointers) (item.Tree other root) t u = absurd (list-or-tree kind bytes entry other pointers root t u)
one-item kind true bytes (item.Tree other root) (item.List entry pointers) t u = absurd (list-or-tree kind bytes entry other pointers root u t)
one-item kind true bytes (item.Inner entry child) other t u = absurd t.is_item
one-item kind true bytes (item.List entry pointers) (item.Inner other child) t u = absurd u.is_item
one-item kind true bytes (item.Tree entry root) (item.Inner other child) t u = absurd u.is_item
one-item kind false bytes (item.Inner entry child) (item.Inner other block) t u =
    let same : entry ≡ other = entries-of kind false bytes (item.Inner entry child) (item.Inner other block) t u in
    let children : child ≡ block = ap (λ (p : RowPtr). p.block) (sym (child-of kind bytes entry child t) ∙ child-of kind bytes other block u) in
    λ i. item.Inner (same i) (children i)
one-item kind false bytes (item.List entry pointers) other t u = absurd t.is_item
one-item kind false bytes (item.Tree entry root) other t u = absurd t.is_item
one-item kind false bytes (item.Inner entry child) (item.List other pointers) t u = absurd u.is_item
one-item kind false bytes (item.Inner entry child) (item.Tree other root) t u = absurd u.is_item
