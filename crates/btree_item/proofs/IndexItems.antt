-- The tuples of an index some of whose columns are INCLUDE columns.
use Rattle.std.proofs.Common.{◌≡◌, ℕ, ◌+◌, ◌%◌, ◌<◌, ◌≤◌, List, length, take, sym, ap, subst, ◌∙◌, arith, length-take, Some, None, IfOk, MatchOption}
use Rattle.std.specs.Prelude.{Option, Result, Ok, Err}
use Rattle.std.proofs.lemmas.List.{take_all}
use Rattle.std.proofs.lemmas.List.Elements.{All-take}
use Rattle.pg_bytes.specs.Numbers.{number_at}
use Rattle.pg_bytes.specs.Pointers.{row_pointer_at}
use Rattle.pg_bytes.specs.declared.row_ptr.RowPtr.{RowPtr}
use Rattle.opclass.specs.declared.types.ColType.{ColType}
use Rattle.opclass.specs.declared.value.KeyVal.{KeyVal}
use Rattle.opclass.specs.Types.{facts_of}
use Rattle.tuple_data.specs.Reading.{AreStored, IsStored}
use Rattle.btree_item.specs.Item.{IsTupleOf, IsTupleOfIndex}
use Rattle.btree_item.specs.declared.item.Item.{Item}
use Rattle.btree_item.specs.declared.item.Item.TheVariants as item
use Rattle.btree_item.proofs.ItemFronts.{HasSize, kept-few, pivot-front, posting-front}
use Rattle.btree_item.proofs.ItemReads.{IsAnswer, sized}
use Rattle.btree_item.proofs.ItemsApart.{pivot-high, plain-low, posting-high, posting-not-pivot, tuples_told_apart}

-- what is to be read of bytes
abbrev pub IsAnswerOfIndex : List ColType → ℕ → List ℕ → Option Item → Type 0
IsAnswerOfIndex kinds key_count bytes answer =
    MatchOption answer ((said : Item) → IsTupleOfIndex kinds key_count bytes said → ⊥) (IsTupleOfIndex kinds key_count bytes)

-- any tuple has a size within the limits
pub index-sized : (kinds : List ColType) (key_count : ℕ) (bytes : List ℕ) (said : Item) → IsTupleOfIndex kinds key_count bytes said → HasSize bytes
index-sized kinds key_count bytes (item.Plain keys ptr) t = sized kinds bytes (item.Plain keys ptr) t
index-sized kinds key_count bytes (item.Posting keys ptrs) t = sized kinds bytes (item.Posting keys ptrs) t.1
index-sized kinds key_count bytes (item.Pivot keys last child) t = sized (take key_count kinds) bytes (item.Pivot keys last child) t

-- ---- without the mark, a row's tuple

pub row-read : {E : Type 0} (kinds : List ColType) (key_count : ℕ) (bytes : List ℕ) (result : Result (Option Item) E) → number_at 2 bytes 6 % 0x4000 < 0x2000
    → IfOk result (IsAnswer kinds bytes) → IfOk result (IsAnswerOfIndex kinds key_count bytes)
row-read kinds key_count bytes (Err e) low read = tt
row-read kinds key_count bytes (Ok (Some (item.Plain keys ptr))) low read = read
row-read kinds key_count bytes (Ok (Some (item.Posting keys ptrs))) low read = let high = posting-high kinds bytes keys ptrs read in absurd (omega arith)
row-read kinds key_count bytes (Ok (Some (item.Pivot keys last child))) low read = let high = pivot-high kinds bytes keys last child read in absurd (omega arith)
row-read kinds key_count bytes (Ok None) low read = none
  where
    none : (said : Item) → IsTupleOfIndex kinds key_count bytes said → ⊥
    none (item.Plain keys ptr) t = read (item.Plain keys ptr) t
    none (item.Posting keys ptrs) t = read (item.Posting keys ptrs) t.1
    none (item.Pivot keys last child) t = let high = pivot-high (take key_count kinds) bytes keys last child t in absurd (omega arith)

-- ---- with it and a count of row pointers, those of several rows

-- a pivot's front has no mark of a posting tuple
no-pivot : (kinds : List ColType) (bytes : List ℕ) (keys : List KeyVal) (last : Option RowPtr) (child : ℕ) → length kinds ≤ 32
    → 0x2000 ≤ (row_pointer_at bytes 0).offset → IsTupleOf kinds bytes (item.Pivot keys last child) → ⊥
no-pivot kinds bytes keys None child few mark t =
    let offset = ap (λ (p : RowPtr). p.offset) (pivot-front kinds bytes keys None child few t) in
    let kept = kept-few kinds bytes keys None child t in absurd (omega arith)
no-pivot kinds bytes keys (Some last) child few mark t =
    let offset = ap (λ (p : RowPtr). p.offset) (pivot-front kinds bytes keys (Some last) child few t) in
    let kept = kept-few kinds bytes keys (Some last) child t in absurd (omega arith)

pub few-keys : (kinds : List ColType) (key_count : ℕ) → length kinds ≤ 32 → length (take key_count kinds) ≤ 32
few-keys kinds key_count few = let long = length-take key_count kinds in omega arith

pub none-shared : (kinds : List ColType) (key_count : ℕ) (bytes : List ℕ) → length kinds ≤ 32 → key_count < length kinds
    → 0x2000 ≤ number_at 2 bytes 6 % 0x4000 → 0x2000 ≤ (row_pointer_at bytes 0).offset → (said : Item) → IsTupleOfIndex kinds key_count bytes said → ⊥
none-shared kinds key_count bytes few less high mark (item.Plain keys ptr) t = let low = plain-low kinds bytes keys ptr t in absurd (omega arith)
none-shared kinds key_count bytes few less high mark (item.Posting keys ptrs) t = let all = t.0 in absurd (omega arith)
none-shared kinds key_count bytes few less high mark (item.Pivot keys last child) t =
    no-pivot (take key_count kinds) bytes keys last child (few-keys kinds key_count few) mark t

pub shared-read : {E : Type 0} (kinds : List ColType) (key_count : ℕ) (bytes : List ℕ) (result : Result (Option Item) E) → length kinds ≤ 32
    → key_count ≡ length kinds → 0x2000 ≤ number_at 2 bytes 6 % 0x4000 → 0x2000 ≤ (row_pointer_at bytes 0).offset
    → IfOk result (IsAnswer kinds bytes) → IfOk result (IsAnswerOfIndex kinds key_count bytes)
shared-read kinds key_count bytes (Err e) few all high mark read = tt
shared-read kinds key_count bytes (Ok (Some (item.Plain keys ptr))) few all high mark read = read
shared-read kinds key_count bytes (Ok (Some (item.Posting keys ptrs))) few all high mark read = (all, read)
shared-read kinds key_count bytes (Ok (Some (item.Pivot keys last child))) few all high mark read = absurd (no-pivot kinds bytes keys last child few mark read)
shared-read kinds key_count bytes (Ok None) few all high mark read = none
  where
    none : (said : Item) → IsTupleOfIndex kinds key_count bytes said → ⊥
    none (item.Plain keys ptr) t = read (item.Plain keys ptr) t
    none (item.Posting keys ptrs) t = read (item.Posting keys ptrs) t.1
    none (item.Pivot keys last child) t = no-pivot (take key_count kinds) bytes keys last child (few-keys kinds key_count few) mark t

-- ---- with it and without such a count, a pivot of the keys

no-posting : (kinds : List ColType) (bytes : List ℕ) (keys : List KeyVal) (ptrs : List RowPtr) → (row_pointer_at bytes 0).offset < 0x2000
    → IsTupleOf kinds bytes (item.Posting keys ptrs) → ⊥
no-posting kinds bytes keys ptrs mark t =
    let offset = ap (λ (p : RowPtr). p.offset) (posting-front kinds bytes keys ptrs t) in absurd (omega arith)

pub pivot-read : {E : Type 0} (kinds : List ColType) (key_count : ℕ) (bytes : List ℕ) (result : Result (Option Item) E)
    → 0x2000 ≤ number_at 2 bytes 6 % 0x4000 → (row_pointer_at bytes 0).offset < 0x2000
    → IfOk result (IsAnswer (take key_count kinds) bytes) → IfOk result (IsAnswerOfIndex kinds key_count bytes)
pivot-read kinds key_count bytes (Err e) high mark read = tt
pivot-read kinds key_count bytes (Ok (Some (item.Plain keys ptr))) high mark read =
    let low = plain-low (take key_count kinds) bytes keys ptr read in absurd (omega arith)
pivot-read kinds key_count bytes (Ok (Some (item.Posting keys ptrs))) high mark read = absurd (no-posting (take key_count kinds) bytes keys ptrs mark read)
pivot-read kinds key_count bytes (Ok (Some (item.Pivot keys last child))) high mark read = read
pivot-read kinds key_count bytes (Ok None) high mark read = none
  where
    none : (said : Item) → IsTupleOfIndex kinds key_count bytes said → ⊥
    none (item.Plain keys ptr) t = let low = plain-low kinds bytes keys ptr t in absurd (omega arith)
    none (item.Posting keys ptrs) t = no-posting kinds bytes keys ptrs mark t.1
    none (item.Pivot keys last child) t = read (item.Pivot keys last child) t

-- ---- one tuple at most

-- a posting tuple and a pivot of the keys have different bytes
posting-no-pivot : (kinds : List ColType) (key_count : ℕ) (bytes : List ℕ) (keys others : List KeyVal) (ptrs : List RowPtr) (last : Option RowPtr) (child : ℕ)
    → length kinds ≤ 32 → IsTupleOf kinds bytes (item.Posting keys ptrs) → IsTupleOf (take key_count kinds) bytes (item.Pivot others last child) → ⊥
posting-no-pivot kinds key_count bytes keys others ptrs last child few t u =
    let offset = ap (λ (p : RowPtr). p.offset) (posting-front kinds bytes keys ptrs t) in
    no-pivot (take key_count kinds) bytes others last child (few-keys kinds key_count few) (omega arith) u

pub index_tuples_told_apart : (kinds : List ColType) (key_count : ℕ) (bytes : List ℕ) (said other : Item) → length kinds ≤ 32 → AreStored kinds
    → IsTupleOfIndex kinds key_count bytes said → IsTupleOfIndex kinds key_count bytes other → said ≡ other
index_tuples_told_apart kinds key_count bytes (item.Plain keys p) (item.Plain others q) few stored t u =
    tuples_told_apart kinds bytes (item.Plain keys p) (item.Plain others q) few stored t u
index_tuples_told_apart kinds key_count bytes (item.Plain keys p) (item.Posting others qs) few stored t u =
    tuples_told_apart kinds bytes (item.Plain keys p) (item.Posting others qs) few stored t u.1
index_tuples_told_apart kinds key_count bytes (item.Plain keys p) (item.Pivot others next page) few stored t u =
    let low = plain-low kinds bytes keys p t in let high = pivot-high (take key_count kinds) bytes others next page u in absurd (omega arith)
index_tuples_told_apart kinds key_count bytes (item.Posting keys ps) (item.Plain others q) few stored t u =
    tuples_told_apart kinds bytes (item.Posting keys ps) (item.Plain others q) few stored t.1 u
index_tuples_told_apart kinds key_count bytes (item.Posting keys ps) (item.Posting others qs) few stored t u =
    tuples_told_apart kinds bytes (item.Posting keys ps) (item.Posting others qs) few stored t.1 u.1
index_tuples_told_apart kinds key_count bytes (item.Posting keys ps) (item.Pivot others next page) few stored t u =
    absurd (posting-no-pivot kinds key_count bytes keys others ps next page few t.1 u)
index_tuples_told_apart kinds key_count bytes (item.Pivot keys last child) (item.Plain others q) few stored t u =
    let low = plain-low kinds bytes others q u in let high = pivot-high (take key_count kinds) bytes keys last child t in absurd (omega arith)
index_tuples_told_apart kinds key_count bytes (item.Pivot keys last child) (item.Posting others qs) few stored t u =
    absurd (posting-no-pivot kinds key_count bytes others keys qs last child few u.1 t)
index_tuples_told_apart kinds key_count bytes (item.Pivot keys last child) (item.Pivot others next page) few stored t u =
    tuples_told_apart (take key_count kinds) bytes (item.Pivot keys last child) (item.Pivot others next page)
    (few-keys kinds key_count few) (All-take (λ k. IsStored (facts_of k).form) key_count kinds stored) t u

-- the types of the keys are stored too
pub stored-keys : (kinds : List ColType) (key_count : ℕ) → AreStored kinds → AreStored (take key_count kinds)
stored-keys kinds key_count stored = All-take (λ k. IsStored (facts_of k).form) key_count kinds stored
