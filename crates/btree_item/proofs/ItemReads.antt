-- What a tuple of a B-tree is read as.
use Rattle.std.proofs.Common.{◌≡◌, ℕ, ◌+◌, ◌-◌, ◌%◌, ◌^◌, ◌<◌, ◌≤◌, List, length, take, drop, sym, ap, subst, ◌∙◌, arith, Some, None, IfOk, IfSome, MatchOption, length-take}
use Rattle.std.specs.Prelude.{Option, Result, Ok, Err}
use Rattle.std.specs.List.{AllZip}
use Rattle.std.proofs.lemmas.Slice.Zip.{AllZip-long}
use Rattle.pg_bytes.specs.Numbers.{number_at}
use Rattle.pg_bytes.specs.Pointers.{row_pointer_at}
use Rattle.pg_bytes.specs.declared.row_ptr.RowPtr.{RowPtr}
use Rattle.opclass.specs.declared.types.ColType.{ColType}
use Rattle.opclass.specs.declared.value.KeyVal.{KeyVal}
use Rattle.opclass.specs.Values.{IsValueOf}
use Rattle.btree_item.specs.Tuple.{no_row_mark, size_of}
use Rattle.btree_item.specs.TupleReading.{BeginsWithTuple}
use Rattle.btree_item.specs.Pivot.{image_of_attributes, tail_size}
use Rattle.btree_item.specs.Item.{IsPointer, IsTupleOf, KeepsAll, kept_kinds}
use Rattle.btree_item.specs.Pass.{BeginsWithPointers}
use Rattle.btree_item.specs.declared.item.Item.{Item}
use Rattle.btree_item.specs.declared.item.Item.TheVariants as item
use Rattle.btree_item.proofs.Sizes.{length-posting}
use Rattle.btree_item.proofs.ItemFronts.{HasSize, front_of, info-low, kept-few, last-read, pivot-begins, pivot-front, pivot-sized, plain-begins, plain-front, plain-sized, pointers-begin, posting-begins, posting-front, posting-sized}

-- what is to be read of bytes
abbrev pub IsAnswer : List ColType → List ℕ → Option Item → Type 0
IsAnswer kinds bytes answer = MatchOption answer ((said : Item) → IsTupleOf kinds bytes said → ⊥) (IsTupleOf kinds bytes)

-- any tuple has a size within the limits
pub sized : (kinds : List ColType) (bytes : List ℕ) (said : Item) → IsTupleOf kinds bytes said → HasSize bytes
sized kinds bytes (item.Plain keys ptr) t = plain-sized kinds bytes keys ptr t
sized kinds bytes (item.Posting keys ptrs) t = posting-sized kinds bytes keys ptrs t
sized kinds bytes (item.Pivot keys last child) t = pivot-sized kinds bytes keys last child t

-- ---- the four ways to read one

pub plain-read : {E : Type 0} (kinds : List ColType) (bytes : List ℕ) (ptr : RowPtr) (result : Result (Option Item) E)
    → ptr ≡ row_pointer_at bytes 0 → number_at 2 bytes 6 % 0x4000 < 0x2000
    → IfOk result (λ answer. MatchOption answer ((keys : List KeyVal) → IsTupleOf kinds bytes (item.Plain keys ptr) → ⊥) (IsTupleOf kinds bytes))
    → IfOk result (IsAnswer kinds bytes)
plain-read kinds bytes ptr (Err e) front low read = tt
plain-read kinds bytes ptr (Ok (Some said)) front low read = read
plain-read kinds bytes ptr (Ok None) front low read = none
  where
    none : (said : Item) → IsTupleOf kinds bytes said → ⊥
    none (item.Plain keys other) t =
        read keys (subst (λ (p : RowPtr). IsTupleOf kinds bytes (item.Plain keys p)) (sym (front ∙ plain-front kinds bytes keys other t)) t)
    none (item.Posting keys ptrs) t =
        let size = info-low kinds bytes _ _ keys (posting-begins kinds bytes keys ptrs t) in absurd (omega arith)
    none (item.Pivot keys last child) t =
        let size = info-low (kept_kinds kinds keys) bytes _ _ keys (pivot-begins kinds bytes keys last child t) in absurd (omega arith)

-- a row's tuple hasn't the mark
no-plain : (kinds : List ColType) (bytes : List ℕ) (keys : List KeyVal) (ptr : RowPtr) → 0x2000 ≤ number_at 2 bytes 6 % 0x4000
    → IsTupleOf kinds bytes (item.Plain keys ptr) → ⊥
no-plain kinds bytes keys ptr high t =
    let size = info-low kinds bytes _ _ keys (plain-begins kinds bytes keys ptr t) in
    let small = t.is_item.small in
    absurd (omega arith)

pub posting-read : {E : Type 0} (kinds : List ColType) (bytes : List ℕ) (front : RowPtr) (result : Result (Option Item) E) → length kinds ≤ 32
    → front ≡ row_pointer_at bytes 0 → 0x2000 ≤ number_at 2 bytes 6 % 0x4000 → 0x2000 ≤ front.offset
    → IfOk result (λ answer. MatchOption answer
    ((keys : List KeyVal) (ptrs : List RowPtr) → length ptrs ≡ front.offset - 0x2000 → IsTupleOf kinds bytes (item.Posting keys ptrs) → ⊥)
    (IsTupleOf kinds bytes))
    → IfOk result (IsAnswer kinds bytes)
posting-read kinds bytes front (Err e) few is high mark read = tt
posting-read kinds bytes front (Ok (Some said)) few is high mark read = read
posting-read kinds bytes front (Ok None) few is high mark read = none
  where
    none : (said : Item) → IsTupleOf kinds bytes said → ⊥
    none (item.Plain keys ptr) t = no-plain kinds bytes keys ptr high t
    none (item.Posting keys ptrs) t =
        let offset = ap (λ (p : RowPtr). p.offset) (is ∙ posting-front kinds bytes keys ptrs t) in
        read keys ptrs (omega arith) t
    none (item.Pivot keys None child) t =
        let offset = ap (λ (p : RowPtr). p.offset) (is ∙ pivot-front kinds bytes keys None child few t) in
        let kept = kept-few kinds bytes keys None child t in
        absurd (omega arith)
    none (item.Pivot keys (Some last) child) t =
        let offset = ap (λ (p : RowPtr). p.offset) (is ∙ pivot-front kinds bytes keys (Some last) child few t) in
        let kept = kept-few kinds bytes keys (Some last) child t in
        absurd (omega arith)

pub pointed-read : {E : Type 0} (kinds : List ColType) (bytes : List ℕ) (front : RowPtr) (result : Result (Option Item) E) → length kinds ≤ 32
    → front ≡ row_pointer_at bytes 0 → 0x2000 ≤ number_at 2 bytes 6 % 0x4000 → front.offset < 0x2000 → 0x1000 ≤ front.offset
    → IfOk result (λ answer. MatchOption answer
    ((keys : List KeyVal) (last : RowPtr) → length keys + 0x1000 ≡ front.offset
    → IsTupleOf kinds bytes (item.Pivot keys (Some last) front.block) → ⊥)
    (IsTupleOf kinds bytes))
    → IfOk result (IsAnswer kinds bytes)
pointed-read kinds bytes front (Err e) few is high low mark read = tt
pointed-read kinds bytes front (Ok (Some said)) few is high low mark read = read
pointed-read kinds bytes front (Ok None) few is high low mark read = none
  where
    none : (said : Item) → IsTupleOf kinds bytes said → ⊥
    none (item.Plain keys ptr) t = no-plain kinds bytes keys ptr high t
    none (item.Posting keys ptrs) t =
        let offset = ap (λ (p : RowPtr). p.offset) (is ∙ posting-front kinds bytes keys ptrs t) in absurd (omega arith)
    none (item.Pivot keys None child) t =
        let offset = ap (λ (p : RowPtr). p.offset) (is ∙ pivot-front kinds bytes keys None child few t) in
        let kept = kept-few kinds bytes keys None child t in
        absurd (omega arith)
    none (item.Pivot keys (Some last) child) t =
        let same = is ∙ pivot-front kinds bytes keys (Some last) child few t in
        let offset = ap (λ (p : RowPtr). p.offset) same in
        read keys last (omega arith)
        (subst (λ (b : ℕ). IsTupleOf kinds bytes (item.Pivot keys (Some last) b)) (sym (ap (λ (p : RowPtr). p.block) same)) t)

pub kept-read : {E : Type 0} (kinds : List ColType) (bytes : List ℕ) (front : RowPtr) (result : Result (Option Item) E) → length kinds ≤ 32
    → front ≡ row_pointer_at bytes 0 → 0x2000 ≤ number_at 2 bytes 6 % 0x4000 → front.offset < 0x1000
    → IfOk result (λ answer. MatchOption answer
    ((keys : List KeyVal) → length keys ≡ front.offset → IsTupleOf kinds bytes (item.Pivot keys None front.block) → ⊥)
    (IsTupleOf kinds bytes))
    → IfOk result (IsAnswer kinds bytes)
kept-read kinds bytes front (Err e) few is high low read = tt
kept-read kinds bytes front (Ok (Some said)) few is high low read = read
kept-read kinds bytes front (Ok None) few is high low read = none
  where
    none : (said : Item) → IsTupleOf kinds bytes said → ⊥
    none (item.Plain keys ptr) t = no-plain kinds bytes keys ptr high t
    none (item.Posting keys ptrs) t =
        let offset = ap (λ (p : RowPtr). p.offset) (is ∙ posting-front kinds bytes keys ptrs t) in absurd (omega arith)
    none (item.Pivot keys (Some last) child) t =
        let offset = ap (λ (p : RowPtr). p.offset) (is ∙ pivot-front kinds bytes keys (Some last) child few t) in absurd (omega arith)
    none (item.Pivot keys None child) t =
        let same = is ∙ pivot-front kinds bytes keys None child few t in
        read keys (sym (ap (λ (p : RowPtr). p.offset) same))
        (subst (λ (b : ℕ). IsTupleOf kinds bytes (item.Pivot keys None b)) (sym (ap (λ (p : RowPtr). p.block) same)) t)

-- ---- what was read of the parts

-- the keys of a tuple are those that were read
pub keys-read : (kinds : List ColType) (bytes : List ℕ) (front : RowPtr) (size : ℕ) (keys others : List KeyVal)
    → ((front : RowPtr) (size : ℕ) (values : List KeyVal) → BeginsWithTuple kinds bytes front size values → Some keys ≡ Some values)
    → BeginsWithTuple kinds bytes front size others → others ≡ keys
keys-read kinds bytes front size keys others only b = let same = only front size others b in cc

-- and so are its row pointers
pub same-pointers : (ptrs others : List RowPtr) → Some ptrs ≡ Some others → others ≡ ptrs
same-pointers ptrs others same = cc

-- the types of as many columns as were read
pub kept-as : (kinds : List ColType) (keys : List KeyVal) (kept : ℕ) → kept ≤ length kinds → AllZip IsValueOf (take kept kinds) keys
    → length keys ≡ kept
kept-as kinds keys kept within typed = AllZip-long IsValueOf (take kept kinds) keys typed ∙ length-take kept kinds ∙ omega arith

-- the row pointers of a posting tuple are those that were read behind its keys
pub pointers-only : {E : Type 0} (kinds : List ColType) (bytes slice : List ℕ) (keys : List KeyVal) (count many : ℕ)
    (result : Result (Option (List RowPtr)) E) → slice ≡ drop (size_of kinds keys) bytes → many ≡ count
    → IfOk result (λ answer. (ptrs : List RowPtr) → length ptrs ≡ many → BeginsWithPointers slice ptrs → answer ≡ Some ptrs)
    → IfOk result (λ answer. (ptrs : List RowPtr) → length ptrs ≡ count → IsTupleOf kinds bytes (item.Posting keys ptrs) → answer ≡ Some ptrs)
pointers-only kinds bytes slice keys count many (Err e) cut told only = tt
pointers-only kinds bytes slice keys count many (Ok answer) cut told only = λ ptrs long t.
    only ptrs (long ∙ sym told) (subst (λ (l : List ℕ). BeginsWithPointers l ptrs) (sym cut) (pointers-begin kinds bytes keys ptrs t))

-- a pivot begins with the attributes that it keeps
pub cut-begins : (kinds first : List ColType) (bytes : List ℕ) (keys : List KeyVal) (kept : ℕ) (last : Option RowPtr) (child : ℕ)
    → first ≡ take kept kinds → length keys ≡ kept → IsTupleOf kinds bytes (item.Pivot keys last child)
    → BeginsWithTuple first bytes (front_of keys last child) (size_of first keys + tail_size last + no_row_mark) keys
cut-begins kinds first bytes keys kept last child cut many t =
    let same : kept_kinds kinds keys ≡ first = ap (λ (n : ℕ). take n kinds) many ∙ sym cut in
    subst (λ (f : List ColType). BeginsWithTuple f bytes (front_of keys last child) (size_of f keys + tail_size last + no_row_mark) keys) same
    (pivot-begins kinds bytes keys last child t)

-- where a row pointer is given all attributes are kept
keeps-all : (kinds : List ColType) (keys : List KeyVal) (kept : ℕ) (last : Option RowPtr) → length keys ≡ kept
    → IfSome last (λ ptr. (kept ≡ length kinds) × IsPointer ptr) → KeepsAll kinds keys last
keeps-all kinds keys kept None many whole = tt
keeps-all kinds keys kept (Some last) many whole = (many ∙ whole.0, whole.1)

-- bytes are the pivot that was put
pub is-pivot : (kinds first : List ColType) (bytes : List ℕ) (keys : List KeyVal) (kept : ℕ) (last : Option RowPtr) (child : ℕ)
    → first ≡ take kept kinds → length keys ≡ kept → AllZip IsValueOf first keys → IfSome last (λ ptr. (kept ≡ length kinds) × IsPointer ptr)
    → child < 2 ^ 32 → (size_of first keys ≤ 2704) × (bytes ≡ image_of_attributes first keys kept last child)
    → IsTupleOf kinds bytes (item.Pivot keys last child)
is-pivot kinds first bytes keys kept last child cut many typed whole below put =
    let same : first ≡ kept_kinds kinds keys = cut ∙ ap (λ (n : ℕ). take n kinds) (sym many) in
    record {
      is_item = record {
        typed = subst (λ (f : List ColType). AllZip IsValueOf f keys) same typed;
        last_is = keeps-all kinds keys kept last many whole;
        child_is = below;
        small = subst (λ (f : List ColType). size_of f keys ≤ 2704) same put.0;
      };
      bytes_are = put.1
          ∙ ap (λ (n : ℕ). image_of_attributes first keys n last child) (sym many)
          ∙ ap (λ (f : List ColType). image_of_attributes f keys (length keys) last child) same;
    }

-- and the other way round
pub put-pivot : (kinds first : List ColType) (bytes : List ℕ) (keys others : List KeyVal) (kept : ℕ) (last : Option RowPtr) (child : ℕ)
    → first ≡ take kept kinds → length others ≡ kept → others ≡ keys → IsTupleOf kinds bytes (item.Pivot others last child)
    → (size_of first keys ≤ 2704) × (bytes ≡ image_of_attributes first keys kept last child)
put-pivot kinds first bytes keys others kept last child cut many are t =
    let same : kept_kinds kinds others ≡ first = ap (λ (n : ℕ). take n kinds) many ∙ sym cut in
    subst (λ (k : List KeyVal). (size_of first k ≤ 2704) × (bytes ≡ image_of_attributes first k kept last child)) are (
      subst (λ (f : List ColType). size_of f others ≤ 2704) same t.is_item.small,
      t.bytes_are
          ∙ ap (λ (n : ℕ). image_of_attributes (kept_kinds kinds others) others n last child) many
          ∙ ap (λ (f : List ColType). image_of_attributes f others kept last child) same,
    )

-- the row pointer of a pivot is the one that was read at its end
pub last-only : {E : Type 0} (kinds : List ColType) (bytes : List ℕ) (kept offset : ℕ) (ptr : RowPtr) (child : ℕ) (result : Result (Option Item) E)
    → ptr ≡ row_pointer_at (drop (length bytes - 6) bytes) 0 → kept + 0x1000 ≡ offset
    → IfOk result (λ answer. MatchOption answer
    ((keys : List KeyVal) → length keys ≡ kept → IsTupleOf kinds bytes (item.Pivot keys (Some ptr) child) → ⊥)
    (IsTupleOf kinds bytes))
    → IfOk result (λ answer. MatchOption answer
    ((keys : List KeyVal) (last : RowPtr) → length keys + 0x1000 ≡ offset → IsTupleOf kinds bytes (item.Pivot keys (Some last) child) → ⊥)
    (IsTupleOf kinds bytes))
last-only kinds bytes kept offset ptr child (Err e) is mark read = tt
last-only kinds bytes kept offset ptr child (Ok (Some said)) is mark read = read
last-only kinds bytes kept offset ptr child (Ok None) is mark read = λ keys last many t.
    read keys (omega arith)
    (subst (λ (p : RowPtr). IsTupleOf kinds bytes (item.Pivot keys (Some p) child)) (sym (is ∙ last-read kinds bytes keys last child t)) t)

-- a posting tuple has its keys' tuple in it
pub keys-within : (kinds : List ColType) (bytes : List ℕ) (keys : List KeyVal) (ptrs : List RowPtr) → IsTupleOf kinds bytes (item.Posting keys ptrs)
    → size_of kinds keys ≤ length bytes
keys-within kinds bytes keys ptrs t = let long = ap length t.bytes_are ∙ length-posting kinds keys ptrs in omega arith
