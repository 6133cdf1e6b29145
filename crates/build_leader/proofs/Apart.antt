-- No two rows of a heap have one row pointer.
use Rattle.std.proofs.Common.{◌≡◌, ◌≢◌, ℕ, zero, suc, ◌+◌, ◌<◌, ◌≤◌, List, [], ◌∷◌, ◌++◌, sym, ap, subst, ◌∙◌, inl, inr, arith, get_or, All}
use Rattle.std.specs.List.{range_with_len}
use Rattle.std.proofs.lemmas.List.Elements.{All-append, All-cons, All-head, All-nil, All-same, All-tail, All-weaker}
use Rattle.pg_bytes.specs.Blocks.{block_at, block_count}
use Rattle.pg_bytes.specs.declared.row_ptr.RowPtr.{RowPtr}
use Rattle.opclass.specs.declared.spec.IndexSpec.{IndexSpec}
use Rattle.opclass.specs.declared.table.Table.{Table}
use Rattle.hot_chain.proofs.RootLaws.{separate_roots}
use Rattle.hot_chain.specs.Roots.{AreRows, HasSoundChains, IsRoot, Row}
use Rattle.shared_tape.specs.declared.stored.Record.{Record}
use Rattle.run_merge.proofs.Sorting.{Pairs, Pairs-from, Pairs-to}
use Rattle.run_merge.specs.Sorted.{AreApart}
use Rattle.build_leader.specs.HeapRows.{AreBlockRows, AreHeapRows, AreRowsOfBlocks, HasSoundBlocks}
use Rattle.build_leader.specs.IndexRow.{AreIndexRows}

pub Pairs-append : {X : Type 0} (R : X → X → Type 0) (xs ys : List X) → Pairs R xs → Pairs R ys → All (λ x. All (R x) ys) xs
    → Pairs R (xs ++ ys)
Pairs-append R [] ys p q between = q
Pairs-append R (x ∷ xs) ys p q between = (
  All-append (R x) xs ys p.0 (All-head (λ z. All (R z) ys) x xs between),
  Pairs-append R xs ys p.1 q (All-tail (λ z. All (R z) ys) x xs between),
)

-- two rows with different row pointers
abbrev pub Differ : Record → Record → Type 0
Differ a b = a.ptr ≢ b.ptr

-- two rows of a page with different roots
abbrev RootsDiffer : Row → Row → Type 0
RootsDiffer a b = a.root ≢ b.root

roots_differ : (page : List ℕ) (rows : List Row) → HasSoundChains page → AreRows page rows → Pairs RootsDiffer rows
roots_differ page rows sound are =
    Pairs-from RootsDiffer rows
    (λ i j d less inside same.
    let a : Row = get_or rows i d in
    let b : Row = get_or rows j d in
    let fact_a = are.each i d (omega arith) in
    let fact_b = are.each j d inside in
    let root : IsRoot page a.item b.root = subst (λ (root : ℕ). IsRoot page a.item root) same fact_a.1 in
    let one : a.item ≡ b.item = separate_roots page b.root a.item b.item sound fact_a.0 fact_b.0 root fact_b.1 in
    let below : a.item < b.item = are.ascending i j d less inside in
    omega arith)

module _ (table : Table) (spec : IndexSpec) where
  module _ (page : List ℕ) (block : ℕ) where
    -- a row of the index points to the root of a row of this kind
    abbrev PointsTo : (Row → Type 0) → Record → Type 0
    PointsTo P record' = (row : Row) × P row × (record'.ptr ≡ record { block = block; offset = row.root })

    points_to : (P : Row → Type 0) (rows : List Row) (records : List Record) → All P rows
        → AreIndexRows table spec page block rows records → All (PointsTo P) records
    points_to P [] records all are = All-same (PointsTo P) records [] are (All-nil (PointsTo P))
    points_to P (row ∷ rows) records all (inl out) = points_to P rows records (All-tail P row rows all) out.1
    points_to P (row ∷ rows) records all (inr has) =
        All-same (PointsTo P) records (has.0 ∷ has.1.0) has.1.1
        (All-cons (PointsTo P) has.0 has.1.0 (row, All-head P row rows all, has.1.2.pointer)
        (points_to P rows has.1.0 (All-tail P row rows all) has.1.3))

    index_rows_apart : (rows : List Row) (records : List Record) → Pairs RootsDiffer rows
        → AreIndexRows table spec page block rows records → Pairs Differ records
    index_rows_apart [] records apart are = subst (Pairs Differ) (sym are) tt
    index_rows_apart (row ∷ rows) records apart (inl out) = index_rows_apart rows records apart.1 out.1
    index_rows_apart (row ∷ rows) records apart (inr has) =
        subst (Pairs Differ) (sym has.1.1) (
          All-weaker (PointsTo (RootsDiffer row)) (Differ has.0)
              (λ other at same. at.1 (ap (λ (ptr : RowPtr). ptr.offset) (sym has.1.2.pointer ∙ same ∙ at.2)))
              has.1.0 (points_to (RootsDiffer row) rows has.1.0 apart.0 has.1.3),
          index_rows_apart rows has.1.0 apart.1 has.1.3,
        )

  module _ (heap : List ℕ) where
    -- a row of the index points to this block
    abbrev IsOfBlock : ℕ → Record → Type 0
    IsOfBlock block record' = record'.ptr.block ≡ block

    of_block : (block : ℕ) (records : List Record) → AreBlockRows table spec heap block records
        → All (IsOfBlock block) records
    of_block block records are =
        All-weaker (PointsTo (block_at block heap) block (λ row. Unit {0})) (IsOfBlock block)
        (λ other at. ap (λ (ptr : RowPtr). ptr.block) at.2) records
        (points_to (block_at block heap) block (λ row. Unit {0}) are.0 records (λ k d inside. tt) are.2)

    -- a row of the index points to a block from this one on
    abbrev IsFrom : ℕ → Record → Type 0
    IsFrom block record' = block ≤ record'.ptr.block

    from_block : (from count : ℕ) (records : List Record) → AreRowsOfBlocks table spec heap (range_with_len from count) records
        → All (IsFrom from) records
    from_block from zero records are = All-same (IsFrom from) records [] are (All-nil (IsFrom from))
    from_block from (suc count) records are =
        All-same (IsFrom from) records (are.0 ++ are.1.0) are.1.1
        (All-append (IsFrom from) are.0 are.1.0
        (All-weaker (IsOfBlock from) (IsFrom from) (λ other same. omega (arith, same)) are.0 (of_block from are.0 are.1.2))
        (All-weaker (IsFrom (from + 1)) (IsFrom from) (λ other more. omega (arith, more)) are.1.0
        (from_block (from + 1) count are.1.0 are.1.3)))

    blocks_apart : (from count : ℕ) (records : List Record)
        → ((block : ℕ) → block < from + count → HasSoundChains (block_at block heap))
        → AreRowsOfBlocks table spec heap (range_with_len from count) records → Pairs Differ records
    blocks_apart from zero records sound are = subst (Pairs Differ) (sym are) tt
    blocks_apart from (suc count) records sound are =
        let here : Pairs Differ are.0 = index_rows_apart (block_at from heap) from are.1.2.0 are.0
        (roots_differ (block_at from heap) are.1.2.0 (sound from (omega arith)) are.1.2.1) are.1.2.2 in
        let others : Pairs Differ are.1.0 = blocks_apart (from + 1) count are.1.0
        (λ block below. sound block (omega arith)) are.1.3 in
        let behind : All (IsFrom (from + 1)) are.1.0 = from_block (from + 1) count are.1.0 are.1.3 in
        subst (Pairs Differ) (sym are.1.1)
        (Pairs-append Differ are.0 are.1.0 here others
        (All-weaker (IsOfBlock from) (λ a. All (Differ a) are.1.0)
        (λ a its. All-weaker (IsFrom (from + 1)) (Differ a)
        (λ b from_there same.
        let block : a.ptr.block ≡ b.ptr.block = ap (λ (ptr : RowPtr). ptr.block) same in
        omega (arith, its, from_there)) are.1.0 behind)
        are.0 (of_block from are.0 are.1.2)))

-- the rows of a sound heap have different row pointers
pub heap_pointers_differ : (table : Table) (spec : IndexSpec) (heap : List ℕ) (rows : List Record)
    → HasSoundBlocks table spec heap → AreHeapRows table spec heap rows → Pairs Differ rows
heap_pointers_differ table spec heap rows sound are =
    blocks_apart table spec heap 0 (block_count heap) rows (λ block below. (sound block (omega arith)).chains) are

-- so they are told apart
pub heap_rows_apart : (table : Table) (spec : IndexSpec) (heap : List ℕ) (rows : List Record)
    → HasSoundBlocks table spec heap → AreHeapRows table spec heap rows → AreApart rows
heap_rows_apart table spec heap rows sound are i j d less inside same =
    Pairs-to Differ rows (heap_pointers_differ table spec heap rows sound are) i j d less inside
    (ap (λ pair. pair.1) same)
