-- What the blocks of a heap come to for an index is one thing at most.
use Rattle.std.proofs.Common.{◌≡◌, ℕ, ◌+◌, List, length, sym, ap, ap₂, subst, ◌∙◌, inl, inr}
use Rattle.std.specs.Prelude.{IsTrue, Option, Some, slice_get}
use Rattle.std.proofs.lemmas.Bool.{cases_order}
use Rattle.std.proofs.lemmas.Option.{same_Some}
use Rattle.pg_bytes.proofs.LeastFaults.{least-fault-is-one}
use Rattle.pg_bytes.specs.Blocks.{block_at, block_count}
use Rattle.pg_bytes.specs.declared.row_ptr.RowPtr.{RowPtr}
use Rattle.opclass.specs.declared.spec.IndexSpec.{IndexSpec}
use Rattle.opclass.specs.declared.table.Table.{Table}
use Rattle.opclass.specs.declared.types.Method.{Method}
use Rattle.opclass.specs.declared.types.Method.TheVariants.{BTree, Brin, Gin}
use Rattle.brin_summary.specs.Answer.{Wide, wide_range}
use Rattle.heap_page.specs.Fault.{HasPageFault, number_of_page_cause}
use Rattle.hot_chain.specs.Roots.{HasChainFault, number_of_root_cause}
use Rattle.shared_tape.specs.declared.stored.Record.{Record}
use Rattle.run_merge.proofs.Sorting.{sorted_one}
use Rattle.run_merge.specs.Sorted.{IsSortedRecords}
use Rattle.build_leader.specs.HeapRows.{AreHeapRows, HasSoundBlocks, IsBlockFault, IsFirstFault, IsSoundBlock, OfChains, OfItems, OfPage}
use Rattle.build_leader.specs.IndexRow.{HasItemFault, index_kinds, number_of_item_cause}
use Rattle.build_leader.specs.Laws.{BuildOutcomeIsDetermined}
use Rattle.build_leader.specs.Outcome.{AreAccepted, AreIndexed, AreSortedRows, AreTakenRows, Duplicate, Faulty, Indexed, RangeWide, order_of_index}
use Rattle.build_leader.specs.Ranges.{range_summaries}
use Rattle.build_leader.specs.Unique.{IsFirstClash, NoneClash}
use Rattle.build_leader.proofs.Apart.{heap_rows_apart}
use Rattle.build_leader.proofs.SameRows.{same_heap_rows}

-- ---- faults

module _ (table : Table) (spec : IndexSpec) (page : List ℕ) where
  no_block_fault : (item cause : ℕ) → IsSoundBlock table spec page → IsBlockFault table spec page item cause → ⊥
  no_block_fault item cause sound (OfPage fault) = sound.sound item fault.cause fault.there
  no_block_fault item cause sound (OfChains page_sound fault) = sound.chains item fault.cause fault.there
  no_block_fault item cause sound (OfItems page_sound chains fault) = sound.items item fault.cause fault.there

  same_block_fault : (i c j d : ℕ) → IsBlockFault table spec page i c → IsBlockFault table spec page j d
      → (i ≡ j) × (c ≡ d)
  same_block_fault i c j d (OfPage x) (OfPage y) =
      least-fault-is-one number_of_page_cause (HasPageFault page (length table.columns)) i c j d x y
  same_block_fault i c j d (OfPage x) (OfChains sound y) = absurd (sound i x.cause x.there)
  same_block_fault i c j d (OfPage x) (OfItems sound chains y) = absurd (sound i x.cause x.there)
  same_block_fault i c j d (OfChains sound x) (OfPage y) = absurd (sound j y.cause y.there)
  same_block_fault i c j d (OfChains sound x) (OfChains sound' y) =
      least-fault-is-one number_of_root_cause (HasChainFault page) i c j d x y
  same_block_fault i c j d (OfChains sound x) (OfItems sound' chains y) = absurd (chains i x.cause x.there)
  same_block_fault i c j d (OfItems sound chains x) (OfPage y) = absurd (sound j y.cause y.there)
  same_block_fault i c j d (OfItems sound chains x) (OfChains sound' y) = absurd (chains j y.cause y.there)
  same_block_fault i c j d (OfItems sound chains x) (OfItems sound' chains' y) =
      least-fault-is-one number_of_item_cause (HasItemFault table spec page) i c j d x y

module _ (table : Table) (spec : IndexSpec) (heap : List ℕ) where
  same_first_fault : (b i c b' i' c' : ℕ) → IsFirstFault table spec heap b i c → IsFirstFault table spec heap b' i' c'
      → Faulty b i c ≡ Faulty b' i' c'
  same_first_fault b i c b' i' c' x y = elim (cases_order b b') [
    | inl same ↦
        let there : IsBlockFault table spec (block_at b heap) i' c' =
        subst (λ (block : ℕ). IsBlockFault table spec (block_at block heap) i' c') (sym same) y.fault in
        let rest = same_block_fault table spec (block_at b heap) i c i' c' x.fault there in
        ap (λ (block : ℕ). Faulty block i c) same ∙ ap₂ (Faulty b') rest.0 rest.1
    | inr differ ↦ elim differ [
      | inl less ↦ absurd (no_block_fault table spec (block_at b heap) i c (y.first b less) x.fault)
      | inr more ↦ absurd (no_block_fault table spec (block_at b' heap) i' c' (x.first b' more) y.fault)
    ]
  ]

  pub no_first_fault : (block item cause : ℕ) → HasSoundBlocks table spec heap
      → IsFirstFault table spec heap block item cause → ⊥
  no_first_fault block item cause sound fault =
      no_block_fault table spec (block_at block heap) item cause (sound block fault.inside) fault.fault

  -- ---- sorted rows

  pub same_sorted : (a b : List Record) → HasSoundBlocks table spec heap → AreSortedRows table spec heap a
      → AreSortedRows table spec heap b → a ≡ b
  same_sorted a b sound x y =
      let same : y.rows ≡ x.rows = same_heap_rows table spec heap y.rows x.rows y.of_heap x.of_heap in
      sorted_one (order_of_index spec) x.rows a b (heap_rows_apart table spec heap x.rows sound x.of_heap) x.in_order
      (subst (λ rows. IsSortedRecords (order_of_index spec) rows b) same y.in_order)

  -- ---- clashes

  same_first_clash : (rows : List Record) (f s f' s' : RowPtr) → IsFirstClash spec rows f s → IsFirstClash spec rows f' s'
      → Duplicate f s ≡ Duplicate f' s'
  same_first_clash rows f s f' s' x y = elim (cases_order x.place y.place) [
    | inl same ↦
        let one : x.a ≡ y.a = same_Some x.a y.a (sym x.clash.one ∙ ap (slice_get rows) same ∙ y.clash.one) in
        let other : x.b ≡ y.b = same_Some x.b y.b
        (sym x.clash.next ∙ ap (λ (place : ℕ). slice_get rows (place + 1)) same ∙ y.clash.next) in
        ap₂ Duplicate (x.first_is ∙ ap (λ (row : Record). row.ptr) one ∙ sym y.first_is)
        (x.second_is ∙ ap (λ (row : Record). row.ptr) other ∙ sym y.second_is)
    | inr differ ↦ elim differ [
      | inl less ↦ absurd (y.least x.place x.a x.b less x.clash)
      | inr more ↦ absurd (x.least y.place y.a y.b more y.clash)
    ]
  ]

  no_first_clash : (rows : List Record) (f s : RowPtr) → NoneClash spec rows → IsFirstClash spec rows f s → ⊥
  no_first_clash rows f s none clash = none clash.place clash.a clash.b clash.clash

  -- ---- the rows as an index takes them

  same_taken_by : (m : Method) (a b : List Record) → HasSoundBlocks table spec heap → AreTakenRows m table spec heap a
      → AreTakenRows m table spec heap b → a ≡ b
  same_taken_by BTree a b sound x y = same_sorted a b sound x y
  same_taken_by Brin a b sound x y = same_heap_rows table spec heap a b x y
  same_taken_by Gin a b sound x y = same_heap_rows table spec heap a b x y

  -- a unique B-tree has its rows in order and without a clash
  tree_indexed : (rows : List Record) → spec.method ≡ BTree → AreIndexed table spec heap rows
      → AreSortedRows table spec heap rows × (IsTrue spec.unique → NoneClash spec rows)
  tree_indexed rows tree is = (
    subst (λ (m : Method). AreTakenRows m table spec heap rows) tree is.are,
    subst (λ (m : Method). AreAccepted m table spec heap rows) tree is.accepted,
  )

  no_clash : (sorted : List Record) (f s : RowPtr) → HasSoundBlocks table spec heap → spec.method ≡ BTree → IsTrue spec.unique
      → (rows : List Record) → AreSortedRows table spec heap rows → IsFirstClash spec rows f s → AreIndexed table spec heap sorted → ⊥
  no_clash sorted f s sound tree unique rows are clash indexed =
      let other = tree_indexed sorted tree indexed in
      let same : rows ≡ sorted = same_sorted rows sorted sound are other.0 in
      no_first_clash sorted f s (other.1 unique) (subst (λ rows'. IsFirstClash spec rows' f s) same clash)

  abbrev told_wide : List Record → Option Wide
  told_wide rows = wide_range (index_kinds table spec) (range_summaries spec (block_count heap) rows)

  same_wide : (a b : List Record) (r s r' s' : ℕ) → AreHeapRows table spec heap a → AreHeapRows table spec heap b
      → told_wide a ≡ Some (record { range = r; size = s }) → told_wide b ≡ Some (record { range = r'; size = s' })
      → RangeWide r s ≡ RangeWide r' s'
  same_wide a b r s r' s' x y one other =
      let same : a ≡ b = same_heap_rows table spec heap a b x y in
      let wide : Some (record { range = r; size = s }) ≡ Some (record { range = r'; size = s' }) =
      sym one ∙ ap told_wide same ∙ other in
      let its = same_Some (record { range = r; size = s }) (record { range = r'; size = s' }) wide in
      ap₂ RangeWide (ap (λ (w : Wide). w.range) its) (ap (λ (w : Wide). w.size) its)

  no_wide : (a rows : List Record) (r s : ℕ) → spec.method ≡ Brin → AreHeapRows table spec heap a
      → told_wide a ≡ Some (record { range = r; size = s }) → AreIndexed table spec heap rows → ⊥
  no_wide a rows r s brin x one indexed =
      let are = subst (λ (m : Method). AreTakenRows m table spec heap rows) brin indexed.are in
      let none = subst (λ (m : Method). AreAccepted m table spec heap rows) brin indexed.accepted in
      let same : a ≡ rows = same_heap_rows table spec heap a rows x are in
      let told : told_wide rows ≡ Some (record { range = r; size = s }) = ap told_wide (sym same) ∙ one in
      cc

-- ---- what the blocks come to

pub same_outcome : BuildOutcomeIsDetermined
same_outcome table spec heap (Faulty b i c) (Faulty b' i' c') x y = same_first_fault table spec heap b i c b' i' c' x y
same_outcome table spec heap (Faulty b i c) (Duplicate f s) x y = absurd (no_first_fault table spec heap b i c y.0 x)
same_outcome table spec heap (Faulty b i c) (RangeWide r s) x y = absurd (no_first_fault table spec heap b i c y.0 x)
same_outcome table spec heap (Faulty b i c) (Indexed rows) x y = absurd (no_first_fault table spec heap b i c y.0 x)
same_outcome table spec heap (Duplicate f s) (Faulty b i c) x y = absurd (no_first_fault table spec heap b i c x.0 y)
same_outcome table spec heap (Duplicate f s) (Duplicate f' s') x y =
    let same : y.3.0 ≡ x.3.0 = same_sorted table spec heap y.3.0 x.3.0 x.0 y.3.1 x.3.1 in
    same_first_clash table spec heap x.3.0 f s f' s' x.3.2 (subst (λ rows. IsFirstClash spec rows f' s') same y.3.2)
same_outcome table spec heap (Duplicate f s) (RangeWide r z) x y =
    let tree = x.1 in
    let brin = y.1 in
    cc
same_outcome table spec heap (Duplicate f s) (Indexed rows) x y =
    absurd (no_clash table spec heap rows f s x.0 x.1 x.2 x.3.0 x.3.1 x.3.2 y.1)
same_outcome table spec heap (RangeWide r z) (Faulty b i c) x y = absurd (no_first_fault table spec heap b i c x.0 y)
same_outcome table spec heap (RangeWide r z) (Duplicate f s) x y =
    let brin = x.1 in
    let tree = y.1 in
    cc
same_outcome table spec heap (RangeWide r z) (RangeWide r' z') x y =
    same_wide table spec heap x.2.0 y.2.0 r z r' z' x.2.1 y.2.1 x.2.2 y.2.2
same_outcome table spec heap (RangeWide r z) (Indexed rows) x y =
    absurd (no_wide table spec heap x.2.0 rows r z x.1 x.2.1 x.2.2 y.1)
same_outcome table spec heap (Indexed rows) (Faulty b i c) x y = absurd (no_first_fault table spec heap b i c x.0 y)
same_outcome table spec heap (Indexed rows) (Duplicate f s) x y =
    absurd (no_clash table spec heap rows f s y.0 y.1 y.2 y.3.0 y.3.1 y.3.2 x.1)
same_outcome table spec heap (Indexed rows) (RangeWide r z) x y =
    absurd (no_wide table spec heap y.2.0 rows r z y.1 y.2.1 y.2.2 x.1)
same_outcome table spec heap (Indexed a) (Indexed b) x y =
    ap Indexed (same_taken_by table spec heap spec.method a b x.0 x.1.are y.1.are)
