-- The row of an index that a live item of the heap is, and what can be wrong with it (heapam_index_build_range_scan of
-- heapam_handler.c, FormIndexDatum of index.c, btbuildCallback of nbtsort.c, _bt_check_third_page of nbtutils.c).
use Rattle.std.specs.Prelude.{◌≡◌, ◌⊎◌, ◌-◌, ◌<◌, ℕ, nat_eq, List, [], ◌∷◌, ◌++◌, length, map, filter, filter_map, Some, option_map, Ok, Err, slice_get}
use Rattle.std.specs.List.{list_any, range_with_len}
use Rattle.opclass.specs.declared.spec.IndexSpec.{IndexSpec}
use Rattle.opclass.specs.declared.table.Table.{Table}
use Rattle.opclass.specs.declared.types.ColType.{ColType}
use Rattle.opclass.specs.declared.types.Method.TheVariants.{BTree, Gin}
use Rattle.opclass.specs.declared.value.KeyVal.{KeyVal}
use Rattle.opclass.specs.Filter.{PassesFilter, value_of}
use Rattle.opclass.specs.Needed.{named_columns}
use Rattle.hot_chain.specs.Roots.{IsLive, Row}
use Rattle.heap_row.specs.declared.fault.RowCause.{RowCause}
use Rattle.heap_row.specs.Attribute.{values_of}
use Rattle.heap_row.specs.Fault.{number_of_row_cause}
use Rattle.heap_row.specs.Tuple.{tuple_of}
use Rattle.shared_tape.specs.declared.stored.Record.{Record}
use Rattle.btree_item.specs.Tuple.{size_of}
use Rattle.build_leader.specs.declared.scan.width.WidthCause.{WidthCause}
use Rattle.build_leader.specs.declared.scan.width.WidthCause.TheVariants as width
use Rattle.build_leader.specs.Entries.{HasWideEntry}

-- the columns that the index needs, each once, ascending
abbrev pub needed_of : Table → IndexSpec → List ℕ
needed_of table spec =
    filter (λ number. list_any (nat_eq number) (named_columns spec)) (range_with_len 1 (length table.columns))

-- the columns of its keys, and behind them those of INCLUDE
abbrev pub key_columns : IndexSpec → List ℕ
key_columns spec = map (λ key. key.column) spec.keys

abbrev pub index_columns : IndexSpec → List ℕ
index_columns spec = key_columns spec ++ spec.includes

-- their types
abbrev pub index_kinds : Table → IndexSpec → List ColType
index_kinds table spec =
    filter_map (λ number. option_map (λ column. column.kind) (slice_get table.columns (number - 1)))
    (index_columns spec)

-- the values of these columns, given those of the needed ones
abbrev pub AreValuesOf : List ℕ → List KeyVal → List ℕ → List KeyVal → Type 0
AreValuesOf needed values columns picked = map (value_of needed values) columns ≡ map Some picked

-- the values that an index has of a live item, which its WHERE keeps
pub record HasIndexValues (table : Table) (spec : IndexSpec) (page : List ℕ) (item : ℕ) (keys extra : List KeyVal)
    : Type 0 where
  pub values : List KeyVal
  pub read : values_of (tuple_of page item) table.columns (needed_of table spec) ≡ Ok values
  pub kept : PassesFilter spec.filter (needed_of table spec) values
  pub keys_are : AreValuesOf (needed_of table spec) values (key_columns spec) keys
  pub extra_are : AreValuesOf (needed_of table spec) values spec.includes extra

-- WHERE leaves the item out
pub record IsLeftOut (table : Table) (spec : IndexSpec) (page : List ℕ) (item : ℕ) : Type 0 where
  pub values : List KeyVal
  pub read : values_of (tuple_of page item) table.columns (needed_of table spec) ≡ Ok values
  pub left_out : PassesFilter spec.filter (needed_of table spec) values → ⊥

-- the most bytes of a tuple: a third of a page (BTMaxItemSize of nbtree.h)
abbrev pub most_tuple : ℕ
most_tuple = 2704

-- what can be wrong with a live item: a column of it can't be read, its tuple is too large for a B-tree, or an entry of
-- it too large for a GIN index
pub data ItemCause : Type 0 where
  Unread : RowCause → ItemCause
  TooWide : WidthCause → ItemCause

-- the number by which a cause is told
abbrev pub number_of_width_cause : WidthCause → ℕ
number_of_width_cause width.Tuple = 12
number_of_width_cause width.Entry = 13

abbrev pub number_of_item_cause : ItemCause → ℕ
number_of_item_cause (Unread cause) = number_of_row_cause cause
number_of_item_cause (TooWide cause) = number_of_width_cause cause

-- the values of an index's columns are too large for it, by its method: a BRIN index tells of ranges, and asks nothing of
-- a row
abbrev pub AreTooWide : WidthCause → IndexSpec → List ColType → List KeyVal → Type 0
AreTooWide width.Tuple spec kinds values = (spec.method ≡ BTree) × (most_tuple < size_of kinds values)
AreTooWide width.Entry spec kinds values = (spec.method ≡ Gin) × HasWideEntry kinds values

-- a live item has a fault
abbrev pub HasItemFault : Table → IndexSpec → List ℕ → ℕ → ItemCause → Type 0
HasItemFault table spec page item (Unread cause) =
    IsLive page item × (values_of (tuple_of page item) table.columns (needed_of table spec) ≡ Err cause)
HasItemFault table spec page item (TooWide cause) =
    IsLive page item
    × ((keys extra : List KeyVal) × HasIndexValues table spec page item keys extra
    × AreTooWide cause spec (index_kinds table spec) (keys ++ extra))

-- the row of the index that a row of a block's page is: its values, and the pointer to its root
pub record IsIndexRow (table : Table) (spec : IndexSpec) (page : List ℕ) (block : ℕ) (row : Row) (record' : Record)
    : Type 0 where
  pub values : HasIndexValues table spec page row.item record'.keys record'.extra
  pub pointer : record'.ptr ≡ record { block = block; offset = row.root }

-- what rows of a block's page are in the index, in their order: WHERE leaves some out
abbrev pub AreIndexRows : Table → IndexSpec → List ℕ → ℕ → List Row → List Record → Type 0
AreIndexRows table spec page block [] records = records ≡ []
AreIndexRows table spec page block (row ∷ rows) records =
    (IsLeftOut table spec page row.item × AreIndexRows table spec page block rows records)
    ⊎ ((first : Record) × ((others : List Record) × (records ≡ first ∷ others)
    × IsIndexRow table spec page block row first × AreIndexRows table spec page block rows others))
