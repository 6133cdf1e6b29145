-- The rows of a heap have values of their columns' types, none longer than a page.
use Rattle.std.proofs.Common.{◌≡◌, ℕ, ◌*◌, ◌<◌, ◌≤◌, Bool, true, false, eqb, List, [], ◌∷◌, ◌++◌, length, drop, Some, Ok, refl, subst, inl, inr, arith, All}
use Rattle.std.specs.List.{range_with_len}
use Rattle.std.proofs.lemmas.Bool.{eqb-true}
use Rattle.std.proofs.lemmas.List.{length-take}
use Rattle.std.proofs.lemmas.List.Elements.{All-append, All-cons, All-drop, All-nil, All-same, All-take, All-weaker}
use Rattle.pg_bytes.specs.Blocks.{block_at, block_count}
use Rattle.pg_bytes.specs.PageLayout.{page_size}
use Rattle.opclass.specs.declared.spec.IndexSpec.{IndexSpec}
use Rattle.opclass.specs.declared.table.Column.{Column}
use Rattle.opclass.specs.declared.table.Table.{Table}
use Rattle.opclass.specs.declared.value.KeyVal.{KeyVal}
use Rattle.opclass.specs.Filter.{value_of}
use Rattle.heap_page.specs.Tuple.{item_of}
use Rattle.hot_chain.specs.Roots.{Row}
use Rattle.heap_row.specs.Attribute.{values_of}
use Rattle.heap_row.specs.Tuple.{tuple_of}
use Rattle.heap_row.specs.Typed.{AreReadOf, HasAtMost, IsReadOf}
use Rattle.heap_row.proofs.Contents.{data_short}
use Rattle.heap_row.proofs.ReadValues.{are_read}
use Rattle.shared_tape.specs.declared.stored.Record.{Record}
use Rattle.build_leader.specs.HeapRows.{AreHeapRows, AreRowsOfBlocks}
use Rattle.build_leader.specs.IndexRow.{AreIndexRows, AreValuesOf, HasIndexValues, index_columns, key_columns, needed_of}
use Rattle.build_leader.proofs.Lists.{all_front}
use Rattle.build_leader.proofs.Needed.{needed_columns}
use Rattle.build_leader.proofs.Reading.{all_have}

abbrev IsByte : ℕ → Type 0
IsByte byte = byte < 256

-- ---- values by their columns

module _ (columns : List Column) (most : ℕ) where
  -- the value of a column that was read
  of_column : (needed : List ℕ) (values : List KeyVal) (number : ℕ) (value : KeyVal) → AreReadOf columns most needed values
      → value_of needed values number ≡ Some value → IsReadOf columns most number value
  of_column [] values number value read is = cc
  of_column (first ∷ needed) [] number value read is = absurd read
  of_column (first ∷ needed) (head ∷ values) number value read is =
      of_test (eqb first number) refl (λ there. of_column needed values number value read.1 there)
    where
      of_test : (here : Bool) → eqb first number ≡ here
          → (value_of needed values number ≡ Some value → IsReadOf columns most number value) → IsReadOf columns most number value
      of_test true here others =
          let its : Some head ≡ Some value = rw here at is in
          let same : head ≡ value = cc in
          subst (λ (n : ℕ). IsReadOf columns most n value) (eqb-true first number here)
          (subst (λ (v : KeyVal). IsReadOf columns most first v) same read.0)
      of_test false there others = others (rw there at is)

  of_columns : (needed : List ℕ) (values : List KeyVal) (numbers : List ℕ) (picked : List KeyVal)
      → AreReadOf columns most needed values → AreValuesOf needed values numbers picked → AreReadOf columns most numbers picked
  of_columns needed values [] [] read are = tt
  of_columns needed values [] (v ∷ vs) read are = cc
  of_columns needed values (n ∷ ns) [] read are = cc
  of_columns needed values (n ∷ ns) (v ∷ vs) read are =
      let one : value_of needed values n ≡ Some v = cc in
      let others : AreValuesOf needed values ns vs = cc in
      (of_column needed values n v read one, of_columns needed values ns vs read others)

  both_read : (numbers others : List ℕ) (values behind : List KeyVal) → AreReadOf columns most numbers values
      → AreReadOf columns most others behind → AreReadOf columns most (numbers ++ others) (values ++ behind)
  both_read [] others [] behind read more = more
  both_read [] others (v ∷ vs) behind read more = absurd read
  both_read (n ∷ ns) others [] behind read more = absurd read
  both_read (n ∷ ns) others (v ∷ vs) behind read more = (read.0, both_read ns others vs behind read.1 more)

-- ---- rows

module _ (table : Table) (spec : IndexSpec) where
  -- a row has values of the index's columns, none longer than a page
  abbrev pub IsReadRow : Record → Type 0
  IsReadRow row = AreReadOf table.columns page_size (index_columns spec) (row.keys ++ row.extra)

  module _ (page : List ℕ) (bytes : All IsByte page) (short : length page ≤ page_size) where
    item_read : (item : ℕ) (values : List KeyVal)
        → values_of (tuple_of page item) table.columns (needed_of table spec) ≡ Ok values
        → AreReadOf table.columns page_size (needed_of table spec) values
    item_read item values read =
        let body = (tuple_of page item).body in
        let size : length body ≤ length page = data_short page item _ in
        let inside : length body ≤ page_size = omega arith in
        are_read (tuple_of page item) table.columns page_size (needed_of table spec) values
        (All-drop IsByte _ (item_of page item) (All-take IsByte _ (drop _ page) (All-drop IsByte _ page bytes)))
        inside (needed_columns table spec) read

    both_lists : (item : ℕ) (keys extra : List KeyVal) → HasIndexValues table spec page item keys extra
        → AreReadOf table.columns page_size (index_columns spec) (keys ++ extra)
    both_lists item keys extra has =
        let read = item_read item has.values has.read in
        both_read table.columns page_size (key_columns spec) spec.includes keys extra
        (of_columns table.columns page_size (needed_of table spec) has.values (key_columns spec) keys read has.keys_are)
        (of_columns table.columns page_size (needed_of table spec) has.values spec.includes extra read has.extra_are)

    row_read : (item : ℕ) (row : Record) → HasIndexValues table spec page item row.keys row.extra → IsReadRow row
    row_read item row has = both_lists item row.keys row.extra has

    rows_read : (block : ℕ) (rows : List Row) (records : List Record) → AreIndexRows table spec page block rows records
        → All IsReadRow records
    rows_read block [] records are = All-same IsReadRow records [] are (All-nil IsReadRow)
    rows_read block (row ∷ rows) records (inl out) = rows_read block rows records out.1
    rows_read block (row ∷ rows) records (inr has) =
        All-same IsReadRow records (has.0 ∷ has.1.0) has.1.1
        (All-cons IsReadRow has.0 has.1.0 (row_read row.item has.0 has.1.2.values) (rows_read block rows has.1.0 has.1.3))

  module _ (heap : List ℕ) (bytes : All IsByte heap) where
    page_bytes : (block : ℕ) → All IsByte (block_at block heap)
    unfolding block_at
    page_bytes block = All-take IsByte page_size (drop (page_size * block) heap) (All-drop IsByte (page_size * block) heap bytes)

    page_short : (block : ℕ) → length (block_at block heap) ≤ page_size
    unfolding block_at
    page_short block = let size = length-take page_size (drop (page_size * block) heap) in omega arith

    -- what an index has of an item was read of its columns
    pub values_read : (block item : ℕ) (keys extra : List KeyVal) → HasIndexValues table spec (block_at block heap) item keys extra
        → AreReadOf table.columns page_size (index_columns spec) (keys ++ extra)
    values_read block item keys extra has = both_lists (block_at block heap) (page_bytes block) (page_short block) item keys extra has

    blocks_read : (blocks : List ℕ) (records : List Record) → AreRowsOfBlocks table spec heap blocks records
        → All IsReadRow records
    blocks_read [] records are = All-same IsReadRow records [] are (All-nil IsReadRow)
    blocks_read (block ∷ blocks) records are =
        All-same IsReadRow records (are.0 ++ are.1.0) are.1.1
        (All-append IsReadRow are.0 are.1.0
        (rows_read (block_at block heap) (page_bytes block) (page_short block) block are.1.2.0 are.0 are.1.2.2)
        (blocks_read blocks are.1.0 are.1.3))

    -- the rows of a heap
    pub heap_rows_read : (rows : List Record) → AreHeapRows table spec heap rows → All IsReadRow rows
    heap_rows_read rows are = blocks_read (range_with_len 0 (block_count heap)) rows are

    -- have short keys
    pub heap_rows_short : (rows : List Record) → AreHeapRows table spec heap rows
        → All (λ row. All (HasAtMost page_size) row.keys) rows
    heap_rows_short rows are =
        All-weaker IsReadRow (λ (row : Record). All (HasAtMost page_size) row.keys)
        (λ row read.
        all_front (HasAtMost page_size) row.keys row.extra
        (all_have table.columns (index_columns spec) (row.keys ++ row.extra) read))
        rows (heap_rows_read rows are)
