-- What the rows of an index are read by, and what is read of a live item.
use Rattle.std.specs.Prelude.{◌≡◌, ◌<◌, ⊤, IsTrue, ℕ, Bool, true, false, List, map, Some, Ok, slice_get}
use Rattle.pg_bytes.specs.declared.row_ptr.RowPtr.{RowPtr}
use Rattle.pg_bytes.specs.PageLayout.{page_size}
use Rattle.opclass.specs.declared.spec.IndexSpec.{IndexSpec}
use Rattle.opclass.specs.declared.table.Table.{Table}
use Rattle.opclass.specs.declared.types.ColType.{ColType}
use Rattle.opclass.specs.declared.value.KeyVal.{KeyVal}
use Rattle.opclass.specs.Filter.{PassesFilter}
use Rattle.opclass.specs.Indexes.{IsIndexOver, IsTable}
use Rattle.heap_row.specs.declared.fault.RowFault.{RowFault}
use Rattle.heap_row.specs.declared.fault.RowFault.TheVariants as fault
use Rattle.heap_row.specs.Attribute.{values_of}
use Rattle.heap_row.specs.Tuple.{tuple_of}
use Rattle.heap_row.specs.Typed.{AreReadOf}
use Rattle.shared_tape.specs.declared.stored.Record.{Record}
use Rattle.build_leader.specs.declared.scan.row_reader.RowReader.TheInside.{Inside}
use Rattle.btree_item.specs.Tuple.{size_of}
use Rattle.build_leader.specs.declared.scan.width.WidthCause.{WidthCause}
use Rattle.build_leader.specs.declared.scan.width.WidthCause.TheVariants as width
use Rattle.build_leader.specs.Entries.{HasWideEntry}
use Rattle.build_leader.specs.IndexRow.{AreTooWide, AreValuesOf, HasIndexValues, HasItemFault, IsLeftOut, ItemCause, index_columns, index_kinds, most_tuple, needed_of, number_of_item_cause, number_of_width_cause}
use Rattle.build_leader.specs.Holding.{IsTakeable}

-- a reader of the rows of an index over a table
pub record ReaderView : Type 0 where
  pub table : Table
  pub spec : IndexSpec

-- an index that rows are read for
pub record IsReadable (table : Table) (spec : IndexSpec) : Type 0 where
  pub table_is : IsTable table
  pub over : IsIndexOver table spec

-- these items stand at these places of a list
abbrev pub AreAt : {X : Type 0} → List X → List ℕ → List X → Type 0
AreAt items places picked = map (slice_get items) places ≡ map Some picked

-- a reader has the needed columns of the table, the types of the index's columns, and the places of these columns among
-- the needed ones, which it knows where they are the needed ones as they stand
pub record IsSoundReader (reader : Inside) : Type 0 where
  pub index : IsReadable reader.table.now reader.spec.now
  pub needed : reader.needed ≡ needed_of reader.table.now reader.spec.now
  pub kinds : reader.kinds ≡ index_kinds reader.table.now reader.spec.now
  pub places : AreAt reader.needed reader.places.items (index_columns reader.spec.now)
  pub as_needed : IsTrue reader.as_needed → reader.needed ≡ index_columns reader.spec.now

-- the values of the needed columns of an item which WHERE keeps
pub record AreNeeded (table : Table) (spec : IndexSpec) (page : List ℕ) (item : ℕ) (values : List KeyVal) : Type 0 where
  pub read : values_of (tuple_of page item) table.columns (needed_of table spec) ≡ Ok values
  pub kept : PassesFilter spec.filter (needed_of table spec) values
  pub typed : AreReadOf table.columns page_size (needed_of table spec) values

abbrev pub AreNeededOrLeft : Table → IndexSpec → List ℕ → ℕ → Bool → List KeyVal → Type 0
AreNeededOrLeft table spec page item false values = IsLeftOut table spec page item
AreNeededOrLeft table spec page item true values = AreNeeded table spec page item values

-- the values of an index's columns that are read of an item which WHERE keeps
pub record AreRead (table : Table) (spec : IndexSpec) (page : List ℕ) (item : ℕ) (picked : List KeyVal) : Type 0 where
  pub values : List KeyVal
  pub read : values_of (tuple_of page item) table.columns (needed_of table spec) ≡ Ok values
  pub kept : PassesFilter spec.filter (needed_of table spec) values
  pub are : AreValuesOf (needed_of table spec) values (index_columns spec) picked
  pub typed : AreReadOf table.columns page_size (index_columns spec) picked

-- what WHERE says of an item: it keeps it, and these are the values of the index's columns, or it leaves it out
abbrev pub AreReadOrLeft : Table → IndexSpec → List ℕ → ℕ → Bool → List KeyVal → Type 0
AreReadOrLeft table spec page item false picked = IsLeftOut table spec page item
AreReadOrLeft table spec page item true picked = AreRead table spec page item picked

-- a record that an item is in an index, with this pointer, and that a sink takes
pub record IsReadRecord (table : Table) (spec : IndexSpec) (page : List ℕ) (item : ℕ) (ptr : RowPtr) (record' : Record)
    : Type 0 where
  pub values : HasIndexValues table spec page item record'.keys record'.extra
  pub pointer : record'.ptr ≡ ptr
  pub takeable : IsTakeable spec record'

-- the same of the item's record
abbrev pub IsReadOrLeft : Table → IndexSpec → List ℕ → ℕ → RowPtr → Bool → Record → Type 0
IsReadOrLeft table spec page item ptr false record' = IsLeftOut table spec page item
IsReadOrLeft table spec page item ptr true record' = IsReadRecord table spec page item ptr record'

-- an item has no fault
abbrev pub IsSoundItem : Table → IndexSpec → List ℕ → ℕ → Type 0
IsSoundItem table spec page item = (cause : ItemCause) → HasItemFault table spec page item cause → ⊥

-- why an item isn't read: its fault, told by the number of the cause, or want of memory
abbrev pub IsItemFault : Table → IndexSpec → List ℕ → ℕ → RowFault → Type 0
IsItemFault table spec page item (fault.Value number) =
    (cause : ItemCause) × HasItemFault table spec page item cause × (number ≡ number_of_item_cause cause)
IsItemFault table spec page item fault.Memory = ⊤

-- how a cause of width is told
abbrev pub fault_of_width : WidthCause → RowFault
fault_of_width cause = fault.Value (number_of_width_cause cause)

-- why values are refused: they are too large for the index, or want of memory
abbrev pub IsWidthFault : IndexSpec → List ColType → List KeyVal → RowFault → Type 0
IsWidthFault spec kinds values (fault.Value number) =
    (cause : WidthCause) × AreTooWide cause spec kinds values × (number ≡ number_of_width_cause cause)
IsWidthFault spec kinds values fault.Memory = ⊤

-- why values are refused: their tuple is too large for a B-tree
abbrev pub IsTupleFault : List ColType → List KeyVal → RowFault → Type 0
IsTupleFault kinds values fault = (fault ≡ fault_of_width width.Tuple) × (most_tuple < size_of kinds values)

-- why the value of an array is refused: it has an entry that is too large, or want of memory
abbrev pub IsEntryFault : List ColType → List KeyVal → RowFault → Type 0
IsEntryFault kinds values (fault.Value number) = HasWideEntry kinds values × (number ≡ 13)
IsEntryFault kinds values fault.Memory = ⊤
