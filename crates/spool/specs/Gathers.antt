-- A gather as contracts see it (ginHeapTupleBulkInsert and ginBuildCallbackParallel of gininsert.c: each entry of a row
-- is kept with the row's pointer, to be sorted).
use Rattle.std.specs.Prelude.{◌≡◌, ℕ, Bool, false, IsTrue, List, [], ◌++◌, map, All}
use Rattle.std.specs.List.Sorted.{IsPermutation}
use Rattle.pg_bytes.specs.declared.row_ptr.RowPtr.{RowPtr}
use Rattle.opclass.specs.declared.value.Elem.{Elem}
use Rattle.opclass.specs.declared.value.KeyVal.{KeyVal}
use Rattle.gin_entry.specs.declared.entry.Entry.{Entry}
use Rattle.gin_entry.specs.Entries.{distinct, entries, entry_of}
use Rattle.gin_entry.specs.EntryOrder.{columns_of, entry_order}
use Rattle.shared_tape.specs.declared.stored.Record.{Record}
use Rattle.shared_tape.specs.Stored.{IsStorable}

-- the record of an entry of a row
abbrev pub entry_record : RowPtr → Entry → Record
entry_record ptr entry = record { keys = columns_of entry; extra = []; ptr = ptr }

-- one record for each entry of a row
abbrev pub entry_records : KeyVal → RowPtr → List Record
entry_records value ptr = map (entry_record ptr) (entries value)

-- one record for each distinct element of an array
abbrev pub element_records : List Elem → RowPtr → List Record
element_records elements ptr = map (entry_record ptr) (map entry_of (distinct elements))

-- runs of entries take these records
abbrev pub AreStorable : List Record → Type 0
AreStorable records = All (IsStorable entry_order) records

-- and the record of each entry of a row
abbrev pub AreStorableEntries : KeyVal → RowPtr → Type 0
AreStorableEntries value ptr = AreStorable (entry_records value ptr)

-- a gather: how many records a run has at most, whether memory ran out, and the records of the rows put, in some order
pub record GatherView : Type 0 where
  pub run_rows : ℕ
  pub spent : Bool
  pub records : List Record

-- memory ran out
abbrev pub IsSpent : GatherView → Type 0
IsSpent gather = IsTrue gather.spent

-- a gather took a row: there is one record more for each of its entries
pub record TakesRow (old : GatherView) (value : KeyVal) (ptr : RowPtr) (new : GatherView) : Type 0 where
  pub run_rows : new.run_rows ≡ old.run_rows
  pub ready : new.spent ≡ false
  pub records : IsPermutation (old.records ++ entry_records value ptr) new.records
