-- Bytes are one tuple of a B-tree at most.
use Rattle.std.proofs.Common.{◌≡◌, ℕ, ◌+◌, ◌%◌, ◌≤◌, List, length, take, drop, sym, ap, subst, ◌∙◌, arith, length-take, Some, None}
use Rattle.std.specs.Prelude.{Option}
use Rattle.std.proofs.lemmas.List.Elements.{All-take}
use Rattle.pg_bytes.specs.Numbers.{number_at}
use Rattle.pg_bytes.specs.declared.row_ptr.RowPtr.{RowPtr}
use Rattle.opclass.specs.declared.types.ColType.{ColType}
use Rattle.opclass.specs.declared.value.KeyVal.{KeyVal}
use Rattle.opclass.specs.Types.{facts_of}
use Rattle.tuple_data.specs.Reading.{AreStored, IsStored}
use Rattle.btree_item.specs.Tuple.{no_row_mark, size_of}
use Rattle.btree_item.specs.TupleReading.{BeginsWithTuple}
use Rattle.btree_item.specs.Pivot.{tail_size}
use Rattle.btree_item.specs.Item.{IsTupleOf, kept_kinds}
use Rattle.btree_item.specs.declared.item.Item.{Item}
use Rattle.btree_item.specs.declared.item.Item.TheVariants as item
use Rattle.btree_item.proofs.Pointers.{begins-read}
use Rattle.btree_item.proofs.TupleReads.{values-once}
use Rattle.btree_item.proofs.ItemFronts.{front_of, info-low, kept-few, last-read, pivot-begins, pivot-front, pivot-sized, plain-begins, plain-front, plain-sized, pointers-begin, posting-begins, posting-front, posting-sized}

-- ---- of one kind

two-plain : (kinds : List ColType) (bytes : List ℕ) (keys others : List KeyVal) (p q : RowPtr) → length kinds ≤ 32 → AreStored kinds
    → IsTupleOf kinds bytes (item.Plain keys p) → IsTupleOf kinds bytes (item.Plain others q) → item.Plain keys p ≡ item.Plain others q
two-plain kinds bytes keys others p q few stored t u =
    let same = values-once kinds bytes p q _ _ keys others stored few (plain-sized kinds bytes keys p t).most
    (plain-begins kinds bytes keys p t) (plain-begins kinds bytes others q u) in
    let ptr : p ≡ q = sym (plain-front kinds bytes keys p t) ∙ plain-front kinds bytes others q u in
    ap (λ (k : List KeyVal). item.Plain k p) same ∙ ap (item.Plain others) ptr

two-postings : (kinds : List ColType) (bytes : List ℕ) (keys others : List KeyVal) (ps qs : List RowPtr) → length kinds ≤ 32 → AreStored kinds
    → IsTupleOf kinds bytes (item.Posting keys ps) → IsTupleOf kinds bytes (item.Posting others qs) → item.Posting keys ps ≡ item.Posting others qs
two-postings kinds bytes keys others ps qs few stored t u =
    let same : keys ≡ others = values-once kinds bytes _ _ _ _ keys others stored few (posting-sized kinds bytes keys ps t).most
    (posting-begins kinds bytes keys ps t) (posting-begins kinds bytes others qs u) in
    let offset = ap (λ (p : RowPtr). p.offset) (sym (posting-front kinds bytes keys ps t) ∙ posting-front kinds bytes others qs u) in
    let many : length qs ≡ length ps = omega arith in
    let u' : IsTupleOf kinds bytes (item.Posting keys qs) = subst (λ (k : List KeyVal). IsTupleOf kinds bytes (item.Posting k qs)) (sym same) u in
    let read : ps ≡ qs =
    sym (begins-read (length ps) (drop (size_of kinds keys) bytes) ps (λ i. length ps) (pointers-begin kinds bytes keys ps t))
    ∙ begins-read (length ps) (drop (size_of kinds keys) bytes) qs many (pointers-begin kinds bytes keys qs u') in
    ap (λ (k : List KeyVal). item.Posting k ps) same ∙ ap (item.Posting others) read

-- the keys of pivots that keep as many attributes
same-kept : (kinds : List ColType) (bytes : List ℕ) (keys others : List KeyVal) (last next : Option RowPtr) (child page : ℕ) → length kinds ≤ 32
    → AreStored kinds → length keys ≡ length others → IsTupleOf kinds bytes (item.Pivot keys last child)
    → IsTupleOf kinds bytes (item.Pivot others next page) → keys ≡ others
same-kept kinds bytes keys others last next child page few stored many t u =
    let kept = kept-few kinds bytes keys last child t in
    let types : kept_kinds kinds others ≡ kept_kinds kinds keys = ap (λ (n : ℕ). take n kinds) (sym many) in
    let cut = length-take (length keys) kinds in
    values-once (kept_kinds kinds keys) bytes _ _ _ _ keys others
    (All-take (λ k. IsStored (facts_of k).form) (length keys) kinds stored) (omega arith) (pivot-sized kinds bytes keys last child t).most
    (pivot-begins kinds bytes keys last child t)
    (subst
    (λ (f : List ColType). BeginsWithTuple f bytes (front_of others next page) (size_of f others + tail_size next + no_row_mark) others)
    types
    (pivot-begins kinds bytes others next page u))

same-page : (kinds : List ColType) (bytes : List ℕ) (keys others : List KeyVal) (last next : Option RowPtr) (child page : ℕ) → length kinds ≤ 32
    → IsTupleOf kinds bytes (item.Pivot keys last child) → IsTupleOf kinds bytes (item.Pivot others next page)
    → front_of keys last child ≡ front_of others next page
same-page kinds bytes keys others last next child page few t u =
    sym (pivot-front kinds bytes keys last child few t) ∙ pivot-front kinds bytes others next page few u

two-pivots : (kinds : List ColType) (bytes : List ℕ) (keys others : List KeyVal) (last next : Option RowPtr) (child page : ℕ) → length kinds ≤ 32
    → AreStored kinds → IsTupleOf kinds bytes (item.Pivot keys last child) → IsTupleOf kinds bytes (item.Pivot others next page)
    → item.Pivot keys last child ≡ item.Pivot others next page
two-pivots kinds bytes keys others None None child page few stored t u =
    let front = same-page kinds bytes keys others None None child page few t u in
    let same : keys ≡ others = same-kept kinds bytes keys others None None child page few stored (ap (λ (p : RowPtr). p.offset) front) t u in
    ap (λ (k : List KeyVal). item.Pivot k None child) same ∙ ap (item.Pivot others None) (ap (λ (p : RowPtr). p.block) front)
two-pivots kinds bytes keys others None (Some next) child page few stored t u =
    let offset = ap (λ (p : RowPtr). p.offset) (same-page kinds bytes keys others None (Some next) child page few t u) in
    let kept = kept-few kinds bytes keys None child t in
    absurd (omega arith)
two-pivots kinds bytes keys others (Some last) None child page few stored t u =
    let offset = ap (λ (p : RowPtr). p.offset) (same-page kinds bytes keys others (Some last) None child page few t u) in
    let kept = kept-few kinds bytes others None page u in
    absurd (omega arith)
two-pivots kinds bytes keys others (Some last) (Some next) child page few stored t u =
    let front = same-page kinds bytes keys others (Some last) (Some next) child page few t u in
    let offset = ap (λ (p : RowPtr). p.offset) front in
    let many : length keys ≡ length others = omega arith in
    let same : keys ≡ others = same-kept kinds bytes keys others (Some last) (Some next) child page few stored many t u in
    let ptr : last ≡ next = sym (last-read kinds bytes keys last child t) ∙ last-read kinds bytes others next page u in
    ap (λ (k : List KeyVal). item.Pivot k (Some last) child) same
    ∙ ap (λ (p : RowPtr). item.Pivot others (Some p) child) ptr
    ∙ ap (item.Pivot others (Some next)) (ap (λ (p : RowPtr). p.block) front)

-- ---- of two kinds

pub plain-low : (kinds : List ColType) (bytes : List ℕ) (keys : List KeyVal) (ptr : RowPtr) → IsTupleOf kinds bytes (item.Plain keys ptr)
    → number_at 2 bytes 6 % 0x4000 ≤ 2704
plain-low kinds bytes keys ptr t =
    let low = info-low kinds bytes _ _ keys (plain-begins kinds bytes keys ptr t) in let small = t.is_item.small in omega arith

pub posting-high : (kinds : List ColType) (bytes : List ℕ) (keys : List KeyVal) (ptrs : List RowPtr) → IsTupleOf kinds bytes (item.Posting keys ptrs)
    → 0x2000 ≤ number_at 2 bytes 6 % 0x4000
posting-high kinds bytes keys ptrs t = let low = info-low kinds bytes _ _ keys (posting-begins kinds bytes keys ptrs t) in omega arith

pub pivot-high : (kinds : List ColType) (bytes : List ℕ) (keys : List KeyVal) (last : Option RowPtr) (child : ℕ)
    → IsTupleOf kinds bytes (item.Pivot keys last child) → 0x2000 ≤ number_at 2 bytes 6 % 0x4000
pivot-high kinds bytes keys last child t =
    let low = info-low (kept_kinds kinds keys) bytes _ _ keys (pivot-begins kinds bytes keys last child t) in omega arith

pub posting-not-pivot : (kinds : List ColType) (bytes : List ℕ) (keys others : List KeyVal) (ptrs : List RowPtr) (last : Option RowPtr) (child : ℕ)
    → length kinds ≤ 32 → IsTupleOf kinds bytes (item.Posting keys ptrs) → IsTupleOf kinds bytes (item.Pivot others last child) → ⊥
posting-not-pivot kinds bytes keys others ptrs None child few t u =
    let offset = ap (λ (p : RowPtr). p.offset) (sym (posting-front kinds bytes keys ptrs t) ∙ pivot-front kinds bytes others None child few u) in
    let kept = kept-few kinds bytes others None child u in
    absurd (omega arith)
posting-not-pivot kinds bytes keys others ptrs (Some last) child few t u =
    let offset = ap (λ (p : RowPtr). p.offset) (sym (posting-front kinds bytes keys ptrs t) ∙ pivot-front kinds bytes others (Some last) child few u) in
    let kept = kept-few kinds bytes others (Some last) child u in
    absurd (omega arith)

pub tuples_told_apart : (kinds : List ColType) (bytes : List ℕ) (said other : Item) → length kinds ≤ 32 → AreStored kinds
    → IsTupleOf kinds bytes said → IsTupleOf kinds bytes other → said ≡ other
tuples_told_apart kinds bytes (item.Plain keys p) (item.Plain others q) few stored t u = two-plain kinds bytes keys others p q few stored t u
tuples_told_apart kinds bytes (item.Plain keys p) (item.Posting others qs) few stored t u =
    let low = plain-low kinds bytes keys p t in let high = posting-high kinds bytes others qs u in absurd (omega arith)
tuples_told_apart kinds bytes (item.Plain keys p) (item.Pivot others next page) few stored t u =
    let low = plain-low kinds bytes keys p t in let high = pivot-high kinds bytes others next page u in absurd (omega arith)
tuples_told_apart kinds bytes (item.Posting keys ps) (item.Plain others q) few stored t u =
    let low = plain-low kinds bytes others q u in let high = posting-high kinds bytes keys ps t in absurd (omega arith)
tuples_told_apart kinds bytes (item.Posting keys ps) (item.Posting others qs) few stored t u =
    two-postings kinds bytes keys others ps qs few stored t u
tuples_told_apart kinds bytes (item.Posting keys ps) (item.Pivot others next page) few stored t u =
    absurd (posting-not-pivot kinds bytes keys others ps next page few t u)
tuples_told_apart kinds bytes (item.Pivot keys last child) (item.Plain others q) few stored t u =
    let low = plain-low kinds bytes others q u in let high = pivot-high kinds bytes keys last child t in absurd (omega arith)
tuples_told_apart kinds bytes (item.Pivot keys last child) (item.Posting others qs) few stored t u =
    absurd (posting-not-pivot kinds bytes others keys qs last child few u t)
tuples_told_apart kinds bytes (item.Pivot keys last child) (item.Pivot others next page) few stored t u =
    two-pivots kinds bytes keys others last next child page few stored t u
