-- The records of the entries of a heap's rows: what a GIN index is packed from.
use Rattle.std.proofs.Common.{◌≡◌, ◌≢◌, ℕ, ◌+◌, ◌-◌, ◌^◌, ◌<◌, ◌≤◌, List, [], ◌∷◌, ◌++◌, length, map, Some, true, refl, sym, ap, ap₂, subst, ◌∙◌, inl, inr, arith, All, Less, Equal}
use Rattle.std.specs.Prelude.{filter_map, option_map, slice_get, slice_index_or}
use Rattle.std.specs.List.{AllZip, flat_map, range_with_len}
use Rattle.std.specs.List.Sorted.{IsPermutation, IsStrictlySortedBy}
use Rattle.std.proofs.lemmas.Bool.{cases_lt}
use Rattle.std.proofs.lemmas.Cmp.{tied_itself}
use Rattle.std.proofs.lemmas.List.{length-map}
use Rattle.std.proofs.lemmas.List.Elements.{All-append, All-cons, All-contains, All-from_get_or, All-from_recursion, All-head, All-map, All-nil, All-same, All-tail, All-weaker, Contains-get_or}
use Rattle.std.proofs.lemmas.List.FromFn.{get_or-range_with_len, length-range_with_len}
use Rattle.std.proofs.lemmas.List.Sorted.{All-permutation}
use Rattle.std.proofs.lemmas.Map.Keys.{sorted_head, sorted_tail}
use Rattle.pg_bytes.specs.Blocks.{block_at, block_count}
use Rattle.pg_bytes.specs.declared.row_ptr.RowPtr.{RowPtr}
use Rattle.pg_bytes.specs.PageLayout.{page_size}
use Rattle.opclass.specs.declared.spec.IndexSpec.{IndexSpec}
use Rattle.opclass.specs.declared.spec.KeyCol.{KeyCol}
use Rattle.opclass.specs.declared.table.Column.{Column}
use Rattle.opclass.specs.declared.table.Table.{Table}
use Rattle.opclass.specs.declared.types.ColType.{ColType}
use Rattle.opclass.specs.declared.types.ColType.TheVariants as ty
use Rattle.opclass.specs.declared.types.Form.{Form}
use Rattle.opclass.specs.declared.types.Form.TheVariants.{Array}
use Rattle.opclass.specs.declared.types.Method.{Method}
use Rattle.opclass.specs.declared.types.Method.TheVariants as method
use Rattle.opclass.specs.declared.value.Elem.{Elem}
use Rattle.opclass.specs.declared.value.Elem.TheVariants as elem
use Rattle.opclass.specs.declared.value.KeyVal.{KeyVal}
use Rattle.opclass.specs.declared.value.KeyVal.TheVariants.{Nil, Num, Raw, Items}
use Rattle.opclass.specs.Filter.{value_of}
use Rattle.opclass.specs.Indexes.{IsIndexOver, IsKeyOf}
use Rattle.opclass.specs.Types.{facts_of, takes_key}
use Rattle.opclass.specs.Values.{IsArrayOf, IsElementOf, IsValueOf}
use Rattle.heap_page.specs.Fault.{IsSoundPage}
use Rattle.heap_page.specs.Line.{IsLine}
use Rattle.heap_page.proofs.Sound.{sound-line}
use Rattle.hot_chain.specs.Chain.{IsHead, Own, Redirected}
use Rattle.hot_chain.specs.Roots.{IsLive, IsRoot, Row}
use Rattle.heap_row.specs.Typed.{AreReadOf, ElementHasAtMost, HasAtMost, IsReadOf}
use Rattle.gin_entry.specs.declared.entry.Entry.{Entry}
use Rattle.gin_entry.specs.declared.entry.Category.{Category}
use Rattle.gin_entry.specs.declared.entry.Category.TheVariants.{EmptyItem, NullItem}
use Rattle.gin_entry.specs.Entries.{HasEntry, entries, entry_of, placeholder}
use Rattle.gin_entry.specs.EntryOrder.{entry_cmp, entry_order}
use Rattle.gin_entry.specs.EntrySize.{entry_size}
use Rattle.gin_entry.proofs.EntryOrders.{entry_cmp_total, same_entry}
use Rattle.gin_entry.proofs.Exact.{entries_exact}
use Rattle.posting_tree.specs.Segments.{IsStorable}
use Rattle.shared_tape.specs.declared.stored.Record.{Record}
use Rattle.shared_tape.specs.Stored.{IsPointer}
use Rattle.spool.specs.Gathers.{AreStorableEntries, entry_record}
use Rattle.spool.specs.Laws.{HasShortElements, IsShort}
use Rattle.spool.proofs.Storable.{entries_storable}
use Rattle.run_merge.specs.Sorted.{AreApart, row_of}
use Rattle.run_merge.proofs.Sorting.{Pairs, Pairs-from, Pairs-moved, Pairs-to}
use Rattle.gin_file.specs.EntryTuple.{most_size}
use Rattle.gin_file.specs.Entry.{IsEntry, IsEntryOf, IsKeyOf as IsEntryKey}
use Rattle.gin_pack.specs.Records.{IsEntryRecord}
use Rattle.build_leader.specs.Blocks.{IsHeapFile, most_blocks}
use Rattle.build_leader.specs.Entries.{HasWideEntry, array_of, row_entries, rows_entries}
use Rattle.build_leader.specs.HeapRows.{AreBlockRows, AreHeapRows, AreRowsOfBlocks, HasSoundBlocks, IsSoundBlock}
use Rattle.build_leader.specs.IndexRow.{AreIndexRows, HasIndexValues, IsIndexRow, index_columns, index_kinds, key_columns, needed_of}
use Rattle.build_leader.specs.Gin.{AreEntries, most_records}
use Rattle.build_leader.proofs.Apart.{Differ, Pairs-append, heap_pointers_differ}
use Rattle.build_leader.proofs.IndexRecords.{kinds_count}

-- ---- what is read

-- what is read of columns are values of their types
typed_of : (columns : List Column) (most : ℕ) (numbers : List ℕ) (values : List KeyVal)
    → AreReadOf columns most numbers values
    → AllZip IsValueOf
    (filter_map (λ number. option_map (λ column. column.kind) (slice_get columns (number - 1))) numbers) values
typed_of columns most [] [] read = tt
typed_of columns most [] (value ∷ values) read = absurd read
typed_of columns most (number ∷ numbers) [] read = absurd read
typed_of columns most (number ∷ numbers) (value ∷ values) read =
    rw read.0.found (read.0.typed, typed_of columns most numbers values read.1)

pub typed_values : (table : Table) (spec : IndexSpec) (most : ℕ) (values : List KeyVal)
    → AreReadOf table.columns most (index_columns spec) values → AllZip IsValueOf (index_kinds table spec) values
typed_values table spec most values read = typed_of table.columns most (index_columns spec) values read

-- and short
pub short_values : (columns : List Column) (most : ℕ) (numbers : List ℕ) (values : List KeyVal)
    → AreReadOf columns most numbers values → All (HasAtMost most) values
short_values columns most [] [] read = All-nil (HasAtMost most)
short_values columns most [] (value ∷ values) read = absurd read
short_values columns most (number ∷ numbers) [] read = absurd read
short_values columns most (number ∷ numbers) (value ∷ values) read =
    All-cons (HasAtMost most) value values read.0.short (short_values columns most numbers values read.1)

is_short : (element : Elem) → ElementHasAtMost page_size element → IsShort element
is_short elem.Null short = tt
is_short (elem.Num number) short = tt
is_short (elem.Raw bytes) short = omega (arith, short)

short_elements : (value : KeyVal) → HasAtMost page_size value → HasShortElements value
short_elements Nil short = tt
short_elements (Num number) short = tt
short_elements (Raw bytes) short = tt
short_elements (Items elements) short =
    All-weaker (ElementHasAtMost page_size) IsShort is_short elements short

-- a run takes the entries of a value that is read of a column
pub row_is_storable : (columns : List Column) (number : ℕ) (value : KeyVal) (ptr : RowPtr)
    → IsReadOf columns page_size number value → IsPointer ptr → AreStorableEntries value ptr
row_is_storable columns number value ptr read pointer =
    entries_storable read.column.kind value ptr read.typed (short_elements value read.short) pointer

-- ---- no two are the same

abbrev pub Unlike : Record → Record → Type 0
Unlike a b = row_of a ≢ row_of b

-- of ascending entries no two are the same
unlike_entries : (ptr : RowPtr) (list : List Entry) → IsStrictlySortedBy entry_cmp list
    → Pairs Unlike (map (entry_record ptr) list)
unlike_entries ptr [] up = tt
unlike_entries ptr (entry ∷ list) up = (
  All-map (Unlike (entry_record ptr entry)) (entry_record ptr) list
      (All-weaker (λ other. entry_cmp entry other ≡ Less)
      (λ other. Unlike (entry_record ptr entry) (entry_record ptr other))
      (λ other below same.
      let one : entry ≡ other = same_entry entry other (ap (λ pair. pair.0) same) in
      let level : entry_cmp entry other ≡ Equal =
      subst (λ e. entry_cmp entry e ≡ Equal) one (tied_itself entry_cmp_total entry) in
      cc)
      list (All-from_recursion (λ other. entry_cmp entry other ≡ Less) list (sorted_head entry_cmp entry list up))),
  unlike_entries ptr list (sorted_tail entry_cmp entry list up),
)

-- what holds of each item's list holds of all lists
All-flat_map : {X Y : Type 0} (P : X → Type 0) (Q : Y → Type 0) (f : X → List Y) → ((x : X) → P x → All Q (f x))
    → (xs : List X) → All P xs → All Q (flat_map f xs)
All-flat_map P Q f each [] all = All-nil Q
All-flat_map P Q f each (x ∷ xs) all =
    All-append Q (f x) (flat_map f xs) (each x (All-head P x xs all)) (All-flat_map P Q f each xs (All-tail P x xs all))

-- the records of a row's entries have its pointer
have_pointer : (row : Record) → All (λ entry. entry.ptr ≡ row.ptr) (row_entries row)
have_pointer row =
    All-map (λ (r : Record). r.ptr ≡ row.ptr) (entry_record row.ptr) (entries (array_of row)) (λ k d inside. refl)

unlike_rows : (rows : List Record) → Pairs Differ rows → Pairs Unlike (rows_entries rows)
unlike_rows [] differ = tt
unlike_rows (row ∷ rows) differ =
    Pairs-append Unlike (row_entries row) (rows_entries rows)
    (unlike_entries row.ptr (entries (array_of row)) (entries_exact (array_of row)).ascending)
    (unlike_rows rows differ.1)
    (All-weaker (λ entry. entry.ptr ≡ row.ptr) (λ entry. All (Unlike entry) (rows_entries rows))
    (λ entry its.
    All-flat_map (Differ row) (Unlike entry) row_entries
    (λ other apart.
    All-weaker (λ (r : Record). r.ptr ≡ other.ptr) (Unlike entry)
    (λ r there same. apart (sym its ∙ ap (λ pair. pair.1) same ∙ there)) (row_entries other) (have_pointer other))
    rows differ.0)
    (row_entries row) (have_pointer row))

-- rows with different pointers have entries that are apart
pub entries_apart : (rows : List Record) → Pairs Differ rows → AreApart (rows_entries rows)
entries_apart rows differ = Pairs-to Unlike (rows_entries rows) (unlike_rows rows differ)

-- in whatever order
pub apart_permuted : (records others : List Record) → IsPermutation records others → AreApart records → AreApart others
apart_permuted records others same apart =
    Pairs-to Unlike others
    (Pairs-moved Unlike (λ a b unlike e. unlike (sym e)) records others same (Pairs-from Unlike records apart))

-- ---- each is one of an entry

-- what a value has is an entry
is_entry : (value : KeyVal) (entry : Entry) → HasEntry value entry → IsEntry entry
is_entry Nil entry has = inr (inr has)
is_entry (Num number) entry has = absurd has
is_entry (Raw bytes) entry has = absurd has
is_entry (Items []) entry has = inr (inl has)
is_entry (Items (element ∷ elements)) entry has = inl (has.1, has.4)

-- the key of an element's entry is of the type of elements
element_key : (element : ColType) (each : Elem) → IsElementOf element each → IsValueOf element (entry_of each).key
element_key element elem.Null its = tt
element_key element (elem.Num number) its = its
element_key element (elem.Raw bytes) its = its

-- and the null of an entry without a key is a value of each type
placeholder_key : (element : ColType) (entry : Entry) (category : Category) → entry ≡ placeholder category → IsValueOf element entry.key
placeholder_key element entry category is = subst (λ (e : Entry). IsValueOf element e.key) (sym is) tt

-- an entry of a column's value has a key of the type of elements
has_key : (element : ColType) (value : KeyVal) (entry : Entry) → ((elements : List Elem) → value ≡ Items elements → All (IsElementOf element) elements)
    → HasEntry value entry → IsValueOf element entry.key
has_key element Nil entry its has = placeholder_key element entry NullItem has
has_key element (Num number) entry its has = absurd has
has_key element (Raw bytes) entry its has = absurd has
has_key element (Items []) entry its has = placeholder_key element entry EmptyItem has
has_key element (Items (first ∷ elements)) entry its has =
    let each : IsElementOf element has.1 =
    All-contains (IsElementOf element) (first ∷ elements) has.1 (its (first ∷ elements) refl) (has.0, has.2, has.3) in
    subst (λ (e : Entry). IsValueOf element e.key) (sym has.4) (element_key element has.1 each)

-- the elements of an array that a column has
elements_of : (kind element : ColType) (value : KeyVal) → (facts_of kind).form ≡ Array element → IsValueOf kind value
    → (elements : List Elem) → value ≡ Items elements → All (IsElementOf element) elements
elements_of kind element value form typed elements is =
    subst (λ (f : Form). IsArrayOf f elements) form (subst (IsValueOf kind) is typed)

-- what a value of a column has is an entry of the column
entry_of_column : (kind element : ColType) (value : KeyVal) (entry : Entry) → (facts_of kind).form ≡ Array element → IsValueOf kind value
    → HasEntry value entry → IsEntryOf kind entry
entry_of_column kind element value entry form typed has = record {
  entry_is = is_entry value entry has;
  key = subst (λ (f : Form). IsEntryKey f entry.key) (sym form) (has_key element value entry (elements_of kind element value form typed) has);
}

-- a type of which GIN takes a column is one of arrays
an_array : (kind : ColType) → takes_key method.Gin (facts_of kind).key_use ≡ true → (element : ColType) × ((facts_of kind).form ≡ Array element)
an_array ty.Bool taken = absurd cc
an_array ty.Int2 taken = absurd cc
an_array ty.Int4 taken = absurd cc
an_array ty.Int8 taken = absurd cc
an_array ty.Oid taken = absurd cc
an_array ty.Date taken = absurd cc
an_array ty.Timestamp taken = absurd cc
an_array ty.Timestamptz taken = absurd cc
an_array ty.Time taken = absurd cc
an_array ty.Uuid taken = absurd cc
an_array ty.Text taken = absurd cc
an_array ty.Varchar taken = absurd cc
an_array ty.Bytea taken = absurd cc
an_array ty.Float4 taken = absurd cc
an_array ty.Float8 taken = absurd cc
an_array ty.Numeric taken = absurd cc
an_array ty.Bpchar taken = absurd cc
an_array ty.Name taken = absurd cc
an_array ty.Interval taken = absurd cc
an_array ty.Json taken = absurd cc
an_array ty.Jsonb taken = absurd cc
an_array ty.Int4Array taken = (ty.Int4, refl)
an_array ty.Int8Array taken = (ty.Int8, refl)
an_array ty.TextArray taken = (ty.Text, refl)

-- a row whose pointer a posting list may have
pub record IsListed (row : Record) : Type 0 where
  pub pointer : IsStorable row.ptr
  pub block : row.ptr.block < 2 ^ 32

row_records : (kind element : ColType) (row : Record) → (facts_of kind).form ≡ Array element → IsValueOf kind (array_of row) → IsListed row → (HasWideEntry (kind ∷ []) (array_of row ∷ []) → ⊥)
    → All (IsEntryRecord kind) (row_entries row)
row_records kind element row form typed listed small =
    All-map (IsEntryRecord kind) (entry_record row.ptr) (entries (array_of row))
    (λ k d inside.
    let entry : Entry = slice_index_or (entries (array_of row)) k d in
    let has : HasEntry (array_of row) entry =
    ((entries_exact (array_of row)).exactly entry).0 (Contains-get_or (entries (array_of row)) k d inside) in
    record {
      entry = entry;
      keys = refl;
      is_entry = entry_of_column kind element (array_of row) entry form typed has;
      small = elim (cases_lt most_size (entry_size kind entry)) [
        | inl wide ↦ absurd (small (entry, has, wide))
        | inr fits ↦ fits
      ];
      pointer = listed.pointer;
      block = listed.block;
    })

-- a root is a line pointer of its page
head_line : (page : List ℕ) (start head : ℕ) → IsHead page start head → IsLine page start
head_line page start head (Own normal direct same) = normal.0
head_line page start head (Redirected redirect same normal) = redirect.0

root_line : (page : List ℕ) (item root : ℕ) → IsLive page item → IsRoot page item root → IsLine page root
root_line page item root live (inl own) = subst (IsLine page) (sym own.1) live.0.0
root_line page item root live (inr chain) = head_line page root chain.1.0.0 chain.1.0.1

-- ---- those of a heap

-- the items of lists of one and of none
one_item : (values : List KeyVal) → length values ≡ 1 → values ≡ slice_index_or values 0 Nil ∷ []
one_item [] count = absurd (omega (arith, count))
one_item (value ∷ []) count = refl
one_item (value ∷ other ∷ values) count = absurd (omega (arith, count))

no_item : (values : List KeyVal) → length values ≡ 0 → values ≡ []
no_item [] count = refl
no_item (value ∷ values) count = absurd (omega (arith, count))

-- the types of columns
abbrev kinds_at : List Column → List ℕ → List ColType
kinds_at columns numbers = filter_map (λ number. option_map (λ column. column.kind) (slice_get columns (number - 1))) numbers

-- a number is that of a column that GIN takes
abbrev IsKeyColumn : List Column → ℕ → Type 0
IsKeyColumn columns number =
    (column : Column) × (slice_get columns (number - 1) ≡ Some column) × (takes_key method.Gin (facts_of column.kind).key_use ≡ true)

-- the column of the first key
first_kind : (columns : List Column) (keys : List KeyCol) (includes : List ℕ) (kind : ColType)
    → kinds_at columns (map (λ key. key.column) keys ++ includes) ≡ kind ∷ [] → 0 < length keys
    → All (λ key. IsKeyColumn columns key.column) keys → takes_key method.Gin (facts_of kind).key_use ≡ true
first_kind columns [] includes kind one some all = absurd (omega (arith, some))
first_kind columns (key ∷ keys) includes kind one some all =
    let first = All-head (λ (k : KeyCol). IsKeyColumn columns k.column) key keys all in
    let found = first.1 in
    let turned : first.0.kind ∷ kinds_at columns (map (λ k. k.column) keys ++ includes) ≡ kind ∷ [] = rw found at one in
    let same : first.0.kind ≡ kind = cc in
    subst (λ (k : ColType). takes_key method.Gin (facts_of k).key_use ≡ true) same first.2

module _ (table : Table) (spec : IndexSpec) (kind : ColType) (over : IsIndexOver table spec)
    (one : index_kinds table spec ≡ kind ∷ []) (gin : spec.method ≡ method.Gin) where
  -- the column is one of arrays
  array : (element : ColType) × ((facts_of kind).form ≡ Array element)
  array =
      an_array kind (first_kind table.columns spec.keys spec.includes kind one over.some
      (All-weaker (λ (key : KeyCol). IsKeyOf table spec.method key.column) (λ (key : KeyCol). IsKeyColumn table.columns key.column)
      (λ key its. (its.column, its.found, subst (λ (m : Method). takes_key m (facts_of its.column.kind).key_use ≡ true) gin its.taken))
      spec.keys over.keys))

  -- no live item of a page has an entry that is too large
  abbrev pub NoneWide : List ℕ → Type 0
  NoneWide page =
      (item : ℕ) (keys extra : List KeyVal) → IsLive page item → HasIndexValues table spec page item keys extra
      → HasWideEntry (index_kinds table spec) (keys ++ extra) → ⊥

  -- what the index has of the items of a page was read of its columns
  abbrev pub AreRead : List ℕ → Type 0
  AreRead page =
      (item : ℕ) (keys extra : List KeyVal) → HasIndexValues table spec page item keys extra
      → AreReadOf table.columns page_size (index_columns spec) (keys ++ extra)

  -- an index over one column has one value of an item
  one_value : (page : List ℕ) (item : ℕ) (keys extra : List KeyVal) → HasIndexValues table spec page item keys extra
      → (length keys ≡ 1) × (length extra ≡ 0)
  one_value page item keys extra has =
      let value = value_of (needed_of table spec) has.values in
      let front = sym (length-map keys Some) ∙ ap length (sym has.keys_are) ∙ length-map (key_columns spec) value in
      let back = sym (length-map extra Some) ∙ ap length (sym has.extra_are) ∙ length-map spec.includes value in
      let listed = length-map spec.keys (λ (key : KeyCol). key.column) in
      let count = kinds_count table spec over in
      let kinds = ap length one in
      let some = over.some in
      (omega arith, omega arith)

  abbrev Taken : Record → Type 0
  Taken row = All (IsEntryRecord kind) (row_entries row)

  module _ (page : List ℕ) (block : ℕ) (sound : IsSoundPage page (length table.columns)) (few : block < 2 ^ 32)
      (none : NoneWide page) (read : AreRead page) where
    taken : (row : Row) (record' : Record) → IsLive page row.item × IsRoot page row.item row.root
        → IsIndexRow table spec page block row record' → Taken record'
    taken row record' known is =
        let count = one_value page row.item record'.keys record'.extra is.values in
        let value : record'.keys ≡ array_of record' ∷ [] = one_item record'.keys count.0 in
        let nothing : record'.extra ≡ [] = no_item record'.extra count.1 in
        let both : record'.keys ++ record'.extra ≡ array_of record' ∷ [] = ap₂ (λ a b. a ++ b) value nothing in
        let line = root_line page row.item row.root known.0 known.1 in
        let place = sound-line page (length table.columns) row.root sound line in
        let first = line.0 in
        let offset : IsStorable (record { block = block; offset = row.root }) =
        record { from = first; below = omega (arith, place) } in
        let typed : AllZip IsValueOf (kind ∷ []) (array_of record' ∷ []) =
        subst (λ kinds. AllZip IsValueOf kinds (array_of record' ∷ [])) one
        (subst (AllZip IsValueOf (index_kinds table spec)) both
        (typed_values table spec page_size (record'.keys ++ record'.extra) (read row.item record'.keys record'.extra is.values))) in
        row_records kind array.0 record' array.1 typed.0
        (record {
          pointer = subst IsStorable (sym is.pointer) offset;
          block = subst (λ (ptr : RowPtr). ptr.block < 2 ^ 32) (sym is.pointer) few;
        })
        (λ wide.
        none row.item record'.keys record'.extra known.0 is.values
        (subst (λ kinds. HasWideEntry kinds (record'.keys ++ record'.extra)) (sym one)
        (subst (HasWideEntry (kind ∷ [])) (sym both) wide)))

    abbrev Known : Row → Type 0
    Known row = IsLive page row.item × IsRoot page row.item row.root

    all_taken : (rows : List Row) (records : List Record) → All Known rows
        → AreIndexRows table spec page block rows records → All Taken records
    all_taken [] records known are = All-same Taken records [] are (All-nil Taken)
    all_taken (row ∷ rows) records known (inl out) = all_taken rows records (All-tail Known row rows known) out.1
    all_taken (row ∷ rows) records known (inr has) =
        All-same Taken records (has.0 ∷ has.1.0) has.1.1
        (All-cons Taken has.0 has.1.0 (taken row has.0 (All-head Known row rows known) has.1.2)
        (all_taken rows has.1.0 (All-tail Known row rows known) has.1.3))

  module _ (heap : List ℕ) where
    -- a block that can be read, with a number of four bytes and no entry that is too large
    record IsReadable (block : ℕ) : Type 0 where
      pub sound : IsSoundBlock table spec (block_at block heap)
      pub few : block < 2 ^ 32
      pub none : NoneWide (block_at block heap)
      pub read : AreRead (block_at block heap)

    block_taken : (block : ℕ) (records : List Record) → IsReadable block → AreBlockRows table spec heap block records
        → All Taken records
    block_taken block records can are =
        all_taken (block_at block heap) block can.sound.sound can.few can.none can.read are.0 records are.1.each are.2

    blocks_taken : (blocks : List ℕ) (records : List Record) → All IsReadable blocks
        → AreRowsOfBlocks table spec heap blocks records → All Taken records
    blocks_taken [] records can are = All-same Taken records [] are (All-nil Taken)
    blocks_taken (block ∷ blocks) records can are =
        All-same Taken records (are.0 ++ are.1.0) are.1.1
        (All-append Taken are.0 are.1.0 (block_taken block are.0 (All-head IsReadable block blocks can) are.1.2)
        (blocks_taken blocks are.1.0 (All-tail IsReadable block blocks can) are.1.3))

    -- the entries of the rows of a sound heap without entries that are too large are what an index is packed from
    pub entries_are_records : (rows : List Record) → IsHeapFile heap → HasSoundBlocks table spec heap
        → ((block : ℕ) → AreRead (block_at block heap)) → ((block : ℕ) → block < block_count heap → NoneWide (block_at block heap))
        → AreHeapRows table spec heap rows → All (IsEntryRecord kind) (rows_entries rows)
    entries_are_records rows whole sound read none are =
        let blocks = range_with_len 0 (block_count heap) in
        let few : block_count heap ≤ most_blocks = omega (arith, whole.0) in
        All-flat_map Taken (IsEntryRecord kind) row_entries (λ row its. its) rows
        (blocks_taken blocks rows
        (All-from_get_or IsReadable blocks 0 (λ i inside.
        let count = length-range_with_len 0 (block_count heap) in
        let below : i < block_count heap = omega (arith, count, inside) in
        let zero_more : 0 + i ≡ i = omega arith in
        subst IsReadable (sym (get_or-range_with_len 0 (block_count heap) i 0 below ∙ zero_more))
        (record { sound = sound i below; few = omega (arith, few, below); none = none i below; read = read i })))
        are)

    -- in whatever order they are
    pub are_entries : (rows records : List Record) → IsHeapFile heap → HasSoundBlocks table spec heap
        → ((block : ℕ) → AreRead (block_at block heap)) → ((block : ℕ) → block < block_count heap → NoneWide (block_at block heap))
        → AreHeapRows table spec heap rows → IsPermutation (rows_entries rows) records
        → length records < most_records → AreEntries (index_kinds table spec) entry_order records
    are_entries rows records whole sound read none are same few = record {
      kind = kind;
      one = one;
      order = refl;
      entries = All-permutation (IsEntryRecord kind) (rows_entries rows) records same
          (entries_are_records rows whole sound read none are);
      apart = apart_permuted (rows_entries rows) records same
          (entries_apart rows (heap_pointers_differ table spec heap rows sound are));
      few = few;
    }
