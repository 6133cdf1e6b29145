-- What is packed of a heap's rows is their index, by its method.
use Rattle.std.proofs.Common.{◌≡◌, ◌≢◌, ℕ, ◌+◌, ◌^◌, ◌<◌, ◌≤◌, List, [], ◌∷◌, length, Result, Ok, Err, refl, sym, ap, subst, ◌∙◌, arith, All}
use Rattle.std.specs.Prelude.{IfOk}
use Rattle.std.specs.List.Sorted.{IsPermutation}
use Rattle.std.proofs.lemmas.List.Sorted.{All-permutation, IsPermutation-trans, length_permutation}
use Rattle.pg_bytes.specs.Blocks.{block_count}
use Rattle.opclass.specs.declared.spec.IndexSpec.{IndexSpec}
use Rattle.opclass.specs.declared.spec.SortPart.{SortPart}
use Rattle.opclass.specs.declared.types.ColType.{ColType}
use Rattle.opclass.specs.declared.types.Method.{Method}
use Rattle.opclass.specs.declared.types.Method.TheVariants.{BTree, Brin, Gin}
use Rattle.opclass.specs.Indexes.{most_columns}
use Rattle.brin_summary.specs.Answer.{IsTold, tuple_size, wide_range}
use Rattle.brin_summary.specs.declared.file.BrinFault.{BrinFault}
use Rattle.brin_summary.specs.declared.file.BrinFault.TheVariants as brin
use Rattle.brin_summary.specs.File.{brin_file}
use Rattle.gin_entry.specs.EntryOrder.{entry_order}
use Rattle.shared_tape.specs.declared.stored.Record.{Record}
use Rattle.shared_tape.specs.Runs.{RunView}
use Rattle.shared_tape.specs.Stored.{IsStorable}
use Rattle.run_merge.specs.Sorted.{AllHaveOrder, IsSortedRecords, all_records}
use Rattle.btree_pack.specs.Pass.Put.{AreColumnsOf}
use Rattle.btree_pack.specs.Pass.Run.{RunView as LeafRunView}
use Rattle.btree_pack.specs.Pass.Taken.{IsRowOf, row_of}
use Rattle.build_leader.specs.declared.fault.LeadFault.{LeadFault}
use Rattle.build_leader.specs.declared.fault.LeadFault.TheVariants as lead
use Rattle.build_leader.specs.declared.plan.Plan.{Plan}
use Rattle.brin_summary.specs.declared.ranges.SummedRange.{SummedRange}
use Rattle.build_leader.specs.declared.taken.Packed.{Packed}
use Rattle.build_leader.specs.declared.scan.width.WidthCause.TheVariants as width
use Rattle.build_leader.specs.Calls.{IsLeadFault, IsPlan, fault_of_ranges}
use Rattle.build_leader.specs.Entries.{rows_entries}
use Rattle.build_leader.specs.Gin.{AreEntries, most_records}
use Rattle.build_leader.specs.Holding.{HoldBy, all_ranges, held_on, order_by}
use Rattle.build_leader.specs.IndexRow.{TooWide, index_kinds}
use Rattle.build_leader.specs.Outcome.{AreAccepted, AreIndexed, AreSortedRows, AreTakenRows, IsFileBy, order_of_index, pairs_by}
use Rattle.build_leader.specs.Packing.{AreEntriesPacked, AreSummariesPacked, HaveHeapRows, IsPackedOf, IsRangeFault}
use Rattle.build_leader.specs.Pass.{AreRowsOf, IsPackFault, IsPackedFile, IsWrittenRun}
use Rattle.build_leader.specs.Ranges.{HoldRanges, range_summaries, told_of, told_ranges}
use Rattle.build_leader.specs.Tally.{AreOfColumns}
use Rattle.build_leader.proofs.EntryRecords.{are_entries}
use Rattle.build_leader.proofs.EntryRows.{is_gin_index}
use Rattle.build_leader.proofs.Fitting.{few_keys, told_fit}
use Rattle.build_leader.proofs.Holding.{held_are_summaries}
use Rattle.build_leader.proofs.IndexRecords.{are_columns, heap_rows_taken, kinds_count}
use Rattle.build_leader.proofs.ReadRows.{heap_rows_short, values_read}
use Rattle.build_leader.proofs.Sinking.{hold_as}

-- ---- what holds of a result

pub both_ok : {T E : Type 0} (P Q R : T → Type 0) (r : Result T E) → ((x : T) → P x → Q x → R x) → IfOk r P → IfOk r Q → IfOk r R
both_ok P Q R (Ok x) f p q = f x p q
both_ok P Q R (Err e) f p q = tt

-- ---- what is merged of records are these records

whole_sorted : (order : List SortPart) (whole left sorted : List Record) → IsPermutation whole left
    → IsSortedRecords order left sorted → IsSortedRecords order whole sorted
whole_sorted order whole left sorted moved in_order =
    record { same = IsPermutation-trans whole left sorted moved in_order.same; ascending = in_order.ascending }

module _ (spec : IndexSpec) (order told : List SortPart) (whole left : List Record) (same : order ≡ told)
    (moved : IsPermutation whole left) where
  whole_told : (sorted : List Record) → IsSortedRecords order left sorted → IsSortedRecords told whole sorted
  whole_told sorted in_order =
      whole_sorted told whole left sorted moved (subst (λ (parts : List SortPart). IsSortedRecords parts left sorted) same in_order)

  pub whole_file : (kinds others : List ColType) (file : List ℕ) → kinds ≡ others → IsPackedFile spec kinds order left file
      → IsPackedFile spec others told whole file
  whole_file kinds others file types packed =
      subst (λ (columns : List ColType). IsPackedFile spec columns told whole file) types (record {
        sorted = packed.sorted;
        in_order = whole_told packed.sorted packed.in_order;
        unique = packed.unique;
        file_is = packed.file_is;
      })

  pub whole_run : (kinds others : List ColType) (run : LeafRunView) → kinds ≡ others → IsWrittenRun spec kinds order left run
      → IsWrittenRun spec others told whole run
  whole_run kinds others run types is =
      subst (λ (columns : List ColType). IsWrittenRun spec columns told whole run) types (record {
        sorted = is.sorted;
        in_order = whole_told is.sorted is.in_order;
        unique = is.unique;
        leaves = is.leaves;
      })

  pub whole_fault : (fault : LeadFault) → IsPackFault spec order left fault → IsPackFault spec told whole fault
  whole_fault (lead.Row block item cause) none = absurd none
  whole_fault (lead.Duplicate first second) clash = (clash.0, (clash.1.0, whole_told clash.1.0 clash.1.1, clash.1.2))
  whole_fault (lead.RangeWide range size) none = absurd none
  whole_fault lead.Memory none = tt

  pub whole_rows : (kinds others : List ColType) → others ≡ kinds → AreRowsOf spec kinds whole → AreRowsOf spec others left
  whole_rows kinds others types rows =
      subst (λ (columns : List ColType). AreRowsOf spec columns left) (sym types)
      (All-permutation (λ row. IsRowOf kinds (length spec.keys) (row_of row)) whole left moved rows)

module _ (plan : Plan) (heap : List ℕ) (tapes : List (List RunView)) (ranges : List (List SummedRange)) (count : ℕ)
    (well : IsPlan plan) (have : HaveHeapRows plan heap tapes ranges count) where
  abbrev spec : IndexSpec
  spec = plan.spec

  abbrev kinds : List ColType
  kinds = index_kinds plan.table plan.spec

  abbrev blocks : ℕ
  blocks = block_count heap

  module _ (method : Method) (is : spec.method ≡ method) where
    order_is : order_by spec.method spec ≡ order_by method spec
    order_is = ap (λ (m : Method). order_by m spec) is

    pub in_order : AllHaveOrder (order_by method spec) tapes
    in_order = subst (λ (order : List SortPart). AllHaveOrder order tapes) order_is have.order

    pub can_be_stored : All (IsStorable (order_by method spec)) (all_records tapes)
    can_be_stored = subst (λ (order : List SortPart). All (IsStorable order) (all_records tapes)) order_is have.storable

    own_hold : HoldBy method spec have.rows (held_on tapes ranges)
    own_hold = hold_as spec method have.rows (held_on tapes ranges) is have.held

    is_indexed : (rows : List Record) → AreTakenRows method plan.table spec heap rows → AreAccepted method plan.table spec heap rows
        → AreIndexed plan.table spec heap rows
    is_indexed rows are accepted = record {
      are = subst (λ (m : Method). AreTakenRows m plan.table spec heap rows) (sym is) are;
      accepted = subst (λ (m : Method). AreAccepted m plan.table spec heap rows) (sym is) accepted;
    }

    is_packed : (rows : List Record) (packed : Packed) → AreIndexed plan.table spec heap rows
        → IsFileBy method plan.table spec blocks rows packed.image → packed.pairs ≡ pairs_by method spec blocks rows
        → count ≡ length rows → IsPackedOf plan heap count packed
    is_packed rows packed indexed image pairs counted = record {
      taken = rows;
      indexed = indexed;
      image = subst (λ (m : Method). IsFileBy m plan.table spec blocks rows packed.image) (sym is) image;
      pairs = pairs ∙ ap (λ (m : Method). pairs_by m spec blocks rows) (sym is);
      counted = counted;
    }

  -- ---- a B-tree

  module _ (tree : spec.method ≡ BTree) where
    on_tapes : IsPermutation have.rows (all_records tapes)
    on_tapes = (own_hold BTree tree).0

    pub tree_columns : AreColumnsOf spec kinds
    tree_columns = are_columns plan.table spec well.index tree

    pub tree_rows : AreRowsOf spec kinds (all_records tapes)
    tree_rows =
        All-permutation (λ row. IsRowOf kinds (length spec.keys) (row_of row)) have.rows (all_records tapes) on_tapes
        (heap_rows_taken plan.table spec well.index tree heap have.rows have.sound have.of_heap)

    abbrev order : List SortPart
    order = order_of_index spec

    sorted_of_heap : (sorted : List Record) → IsSortedRecords order (all_records tapes) sorted
        → AreSortedRows plan.table spec heap sorted
    sorted_of_heap sorted in_order' = record {
      rows = have.rows;
      of_heap = have.of_heap;
      in_order = record {
        same = IsPermutation-trans have.rows (all_records tapes) sorted on_tapes in_order'.same;
        ascending = in_order'.ascending;
      };
    }

    pub tree_packed : (packed : Packed) → IsPackedFile spec kinds order (all_records tapes) packed.image → packed.pairs ≡ count
        → IsPackedOf plan heap count packed
    tree_packed packed file pairs =
        let sorted = file.sorted in
        let many : length sorted ≡ length have.rows =
        length_permutation have.rows sorted (IsPermutation-trans have.rows (all_records tapes) sorted on_tapes file.in_order.same) in
        is_packed BTree tree sorted packed (is_indexed BTree tree sorted (sorted_of_heap sorted file.in_order) file.unique)
        file.file_is (pairs ∙ have.counted ∙ sym many) (have.counted ∙ sym many)

    pub tree_fault : (fault : LeadFault) → IsPackFault spec order (all_records tapes) fault → IsLeadFault plan heap fault
    tree_fault (lead.Row block item cause) none = absurd none
    tree_fault (lead.Duplicate first second) clash =
        (have.sound, tree, clash.0, (clash.1.0, sorted_of_heap clash.1.0 clash.1.1, clash.1.2))
    tree_fault (lead.RangeWide range size) none = absurd none
    tree_fault lead.Memory none = tt

  -- ---- a BRIN index

  module _ (brin_is : spec.method ≡ Brin) where
    own_ranges : HoldRanges spec have.rows (all_ranges ranges)
    own_ranges = (own_hold Brin brin_is).1

    pub range_columns : AreOfColumns (length spec.keys) (all_ranges ranges)
    range_columns = own_ranges.columns

    no_tree : spec.method ≢ BTree
    no_tree tree = cc

    pub range_kinds : length kinds ≡ length spec.keys
    range_kinds =
        let all = kinds_count plan.table spec well.index in
        let none = ap length (well.index.no_includes no_tree) in
        omega (arith, all, none)

    pub range_keys : length spec.keys ≤ 32
    range_keys = few_keys plan.table spec well.index

    pub range_sizes : All (λ byte. byte < 256) heap → (range : ℕ)
        → tuple_size kinds (told_of (length spec.keys) range (all_ranges ranges)) < 2 ^ 63
    range_sizes bytes range =
        told_fit spec kinds have.rows (all_ranges ranges) range_keys
        (heap_rows_short plan.table spec heap bytes have.rows have.of_heap) own_ranges range

    told_are : told_ranges spec blocks (all_ranges ranges) ≡ range_summaries spec blocks have.rows
    told_are = held_are_summaries spec have.rows (all_ranges ranges) blocks own_ranges

    pub ranges_packed : (packed : Packed) → AreSummariesPacked plan blocks (all_ranges ranges) packed
        → IsPackedOf plan heap count packed
    ranges_packed packed file =
        is_packed Brin brin_is have.rows packed
        (is_indexed Brin brin_is have.rows have.of_heap (ap (wide_range kinds) (sym told_are) ∙ file.fit))
        (file.image ∙ ap (brin_file kinds spec.pages_per_range) told_are) file.pairs have.counted

    pub range_fault : (fault : LeadFault) → IsRangeFault plan blocks (all_ranges ranges) fault → IsLeadFault plan heap fault
    range_fault fault is = subst (IsLeadFault plan heap) (sym is.fault_is) (told_fault is.told is.is)
      where
        told_fault : (told : BrinFault) → IsTold kinds (told_ranges spec blocks (all_ranges ranges)) told
            → IsLeadFault plan heap (fault_of_ranges told)
        told_fault (brin.RangeWide range size) wide =
            (have.sound, brin_is, (have.rows, have.of_heap, ap (wide_range kinds) (sym told_are) ∙ wide))
        told_fault brin.Memory memory = tt

  -- ---- a GIN index

  module _ (gin_is : spec.method ≡ Gin) where
    on_entry_tapes : IsPermutation (rows_entries have.rows) (all_records tapes)
    on_entry_tapes = (own_hold Gin gin_is).0

    one_kind : (kind : ColType) × (kinds ≡ kind ∷ [])
    one_kind =
        let all = kinds_count plan.table spec well.index in
        let some = well.index.some in
        let most : length spec.keys + length spec.includes ≤ most_columns Gin =
        subst (λ (m : Method). length spec.keys + length spec.includes ≤ most_columns m) gin_is well.index.most in
        only kinds (omega (arith, all, some, most))
      where
        only : (list : List ColType) → length list ≡ 1 → (kind : ColType) × (list ≡ kind ∷ [])
        only [] one = absurd (omega (arith, one))
        only (kind ∷ []) one = (kind, refl)
        only (kind ∷ other ∷ more) one = absurd (omega (arith, one))

    pub entries_on_tapes : All (λ byte. byte < 256) heap → length (all_records tapes) < most_records
        → AreEntries kinds entry_order (all_records tapes)
    entries_on_tapes bytes few =
        are_entries plan.table spec one_kind.0 well.index one_kind.1 gin_is heap have.rows (all_records tapes) have.whole have.sound
        (values_read plan.table spec heap bytes)
        (λ block below item keys extra live has wide.
        (have.sound block below).items item (TooWide width.Entry) (live, (keys, extra, has, (gin_is, wide))))
        have.of_heap on_entry_tapes few

    pub entries_packed : (packed : Packed) → AreEntriesPacked plan (all_records tapes) packed → IsPackedOf plan heap count packed
    entries_packed packed are =
        is_packed Gin gin_is have.rows packed (is_indexed Gin gin_is have.rows have.of_heap tt)
        (is_gin_index have.rows (all_records tapes) on_entry_tapes kinds packed.image are.image)
        (are.pairs ∙ length_permutation (rows_entries have.rows) (all_records tapes) on_entry_tapes) have.counted

    pub entry_fault : (fault : LeadFault) → fault ≡ lead.Memory → IsLeadFault plan heap fault
    entry_fault fault memory = subst (IsLeadFault plan heap) (sym memory) tt
