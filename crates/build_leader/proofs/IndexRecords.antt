-- The rows of a sound heap are rows of the index: one value for each column, and no tuple that is too large.
use Rattle.std.proofs.Common.{◌≡◌, ℕ, suc, ◌+◌, ◌-◌, ◌<◌, ◌≤◌, List, [], ◌∷◌, ◌++◌, length, Option, Some, refl, sym, ap, subst, ◌∙◌, inl, inr, arith, All}
use Rattle.std.specs.Prelude.{filter_map, option_map, slice_get}
use Rattle.std.specs.List.{range_with_len}
use Rattle.std.proofs.lemmas.Bool.{cases_lt}
use Rattle.std.proofs.lemmas.List.{length-append, length-map}
use Rattle.std.proofs.lemmas.List.Elements.{All-append, All-cons, All-from_get_or, All-head, All-map, All-nil, All-same, All-tail, All-weaker}
use Rattle.std.proofs.lemmas.List.FromFn.{get_or-range_with_len, length-range_with_len}
use Rattle.pg_bytes.specs.Blocks.{block_at, block_count}
use Rattle.opclass.specs.declared.spec.IndexSpec.{IndexSpec}
use Rattle.opclass.specs.declared.spec.KeyCol.{KeyCol}
use Rattle.opclass.specs.declared.table.Table.{Table}
use Rattle.opclass.specs.declared.types.ColType.{ColType}
use Rattle.opclass.specs.declared.types.Method.TheVariants.{BTree}
use Rattle.opclass.specs.declared.value.KeyVal.{KeyVal}
use Rattle.opclass.specs.Filter.{value_of}
use Rattle.opclass.specs.Indexes.{IsIndexOver, IsKeyOf, most_columns}
use Rattle.hot_chain.specs.Roots.{IsLive, Row}
use Rattle.shared_tape.specs.declared.stored.Record.{Record}
use Rattle.btree_item.specs.Tuple.{size_of}
use Rattle.btree_pack.specs.Pass.Put.{AreColumnsOf}
use Rattle.btree_pack.specs.Pass.Taken.{IsRowOf, row_of}
use Rattle.build_leader.specs.declared.scan.width.WidthCause.TheVariants as width
use Rattle.build_leader.specs.HeapRows.{AreBlockRows, AreHeapRows, AreRowsOfBlocks, HasSoundBlocks, HasSoundItems, IsSoundBlock}
use Rattle.build_leader.specs.IndexRow.{AreIndexRows, AreValuesOf, HasIndexValues, TooWide, index_columns, index_kinds, key_columns, most_tuple, needed_of}
use Rattle.build_leader.specs.Pass.{AreRowsOf}

-- ---- the columns of an index

-- a list whose items all are there
length-filter_map : {X Y : Type 0} (f : X → Option Y) (xs : List X) → All (λ x. (y : Y) × (f x ≡ Some y)) xs
    → length (filter_map f xs) ≡ length xs
length-filter_map f [] all = refl
length-filter_map {X} {Y} f (x ∷ xs) all =
    let there = All-head (λ x. (y : Y) × (f x ≡ Some y)) x xs all in
    let rest = length-filter_map f xs (All-tail (λ x. (y : Y) × (f x ≡ Some y)) x xs all) in
    rw (there.1) (ap suc rest)

module _ (table : Table) (spec : IndexSpec) (over : IsIndexOver table spec) where
  -- a column of the index has a type
  abbrev HasKind : ℕ → Type 0
  HasKind number = (kind : ColType) × (option_map (λ column. column.kind) (slice_get table.columns (number - 1)) ≡ Some kind)

  has_kind : (number : ℕ) → IsKeyOf table spec.method number → HasKind number
  has_kind number key = (key.column.kind, ap (option_map (λ column. column.kind)) key.found)

  have_kinds : All HasKind (index_columns spec)
  have_kinds =
      All-append HasKind (key_columns spec) spec.includes
      (All-map HasKind (λ (key : KeyCol). key.column) spec.keys
      (All-weaker (λ (key : KeyCol). IsKeyOf table spec.method key.column) (λ (key : KeyCol). HasKind key.column)
      (λ key. has_kind key.column) spec.keys over.keys))
      (All-weaker (IsKeyOf table spec.method) HasKind has_kind spec.includes over.includes)

  columns_count : length (index_columns spec) ≡ length spec.keys + length spec.includes
  columns_count =
      length-append (key_columns spec) spec.includes
      ∙ ap (λ (n : ℕ). n + length spec.includes) (length-map spec.keys (λ (key : KeyCol). key.column))

  pub kinds_count : length (index_kinds table spec) ≡ length spec.keys + length spec.includes
  kinds_count =
      length-filter_map (λ number. option_map (λ column. column.kind) (slice_get table.columns (number - 1)))
      (index_columns spec) have_kinds
      ∙ columns_count

  pub are_columns : spec.method ≡ BTree → AreColumnsOf spec (index_kinds table spec)
  are_columns tree =
      let few : length spec.keys + length spec.includes ≤ most_columns BTree =
      subst (λ method. length spec.keys + length spec.includes ≤ most_columns method) tree over.most in
      let count = kinds_count in record { all = kinds_count; few = omega (arith, count, few) }

  -- ---- a row of the index

  values_count : (needed : List ℕ) (values : List KeyVal) (columns : List ℕ) (picked : List KeyVal)
      → AreValuesOf needed values columns picked → length picked ≡ length columns
  values_count needed values columns picked are =
      sym (length-map picked Some) ∙ ap length (sym are) ∙ length-map columns (value_of needed values)

  module _ (tree : spec.method ≡ BTree) (page : List ℕ) (sound : HasSoundItems table spec page) where
    is_row : (item : ℕ) (row : Record) → IsLive page item → HasIndexValues table spec page item row.keys row.extra
        → IsRowOf (index_kinds table spec) (length spec.keys) (row_of row)
    is_row item row live has =
        let keys : length row.keys ≡ length (key_columns spec) =
        values_count (needed_of table spec) has.values (key_columns spec) row.keys has.keys_are in
        let extra : length row.extra ≡ length spec.includes =
        values_count (needed_of table spec) has.values spec.includes row.extra has.extra_are in
        let listed : length (key_columns spec) ≡ length spec.keys = length-map spec.keys (λ (key : KeyCol). key.column) in
        let both = length-append row.keys row.extra in
        let count = kinds_count in record {
          keys_all = keys ∙ listed;
          columns = omega (arith, keys, extra, listed, both, count);
          small = elim (cases_lt most_tuple (size_of (index_kinds table spec) (row.keys ++ row.extra))) [
            | inl wide ↦ absurd (sound item (TooWide width.Tuple) (live, (row.keys, row.extra, has, (tree, wide))))
            | inr fits ↦ fits
          ];
        }

    abbrev Taken : Record → Type 0
    Taken row = IsRowOf (index_kinds table spec) (length spec.keys) (row_of row)

    are_rows : (block : ℕ) (rows : List Row) (records : List Record) → All (λ (row : Row). IsLive page row.item) rows
        → AreIndexRows table spec page block rows records → All Taken records
    are_rows block [] records live are = All-same Taken records [] are (All-nil Taken)
    are_rows block (row ∷ rows) records live (inl out) =
        are_rows block rows records (All-tail (λ (row : Row). IsLive page row.item) row rows live) out.1
    are_rows block (row ∷ rows) records live (inr has) =
        All-same Taken records (has.0 ∷ has.1.0) has.1.1
        (All-cons Taken has.0 has.1.0
        (is_row row.item has.0 (All-head (λ (row : Row). IsLive page row.item) row rows live) has.1.2.values)
        (are_rows block rows has.1.0 (All-tail (λ (row : Row). IsLive page row.item) row rows live) has.1.3))

  module _ (tree : spec.method ≡ BTree) (heap : List ℕ) where
    abbrev SoundAt : ℕ → Type 0
    SoundAt block = IsSoundBlock table spec (block_at block heap)

    block_rows : (block : ℕ) (records : List Record) → SoundAt block → AreBlockRows table spec heap block records
        → AreRowsOf spec (index_kinds table spec) records
    block_rows block records sound are =
        are_rows tree (block_at block heap) sound.items block are.0 records (λ k d inside. (are.1.each k d inside).0) are.2

    blocks_rows : (blocks : List ℕ) (records : List Record) → All SoundAt blocks
        → AreRowsOfBlocks table spec heap blocks records → AreRowsOf spec (index_kinds table spec) records
    blocks_rows [] records sound are =
        All-same (λ row. IsRowOf (index_kinds table spec) (length spec.keys) (row_of row)) records [] are
        (All-nil (λ row. IsRowOf (index_kinds table spec) (length spec.keys) (row_of row)))
    blocks_rows (block ∷ blocks) records sound are =
        All-same (λ row. IsRowOf (index_kinds table spec) (length spec.keys) (row_of row)) records (are.0 ++ are.1.0) are.1.1
        (All-append (λ row. IsRowOf (index_kinds table spec) (length spec.keys) (row_of row)) are.0 are.1.0
        (block_rows block are.0 (All-head SoundAt block blocks sound) are.1.2)
        (blocks_rows blocks are.1.0 (All-tail SoundAt block blocks sound) are.1.3))

    pub heap_rows_taken : (records : List Record) → HasSoundBlocks table spec heap → AreHeapRows table spec heap records
        → AreRowsOf spec (index_kinds table spec) records
    heap_rows_taken records sound are =
        let blocks = range_with_len 0 (block_count heap) in
        blocks_rows blocks records
        (All-from_get_or SoundAt blocks 0 (λ i inside.
        let count = length-range_with_len 0 (block_count heap) in
        let below : i < block_count heap = omega (arith, count, inside) in
        let zero_more : 0 + i ≡ i = omega arith in
        subst SoundAt (sym (get_or-range_with_len 0 (block_count heap) i 0 below ∙ zero_more)) (sound i below)))
        are
