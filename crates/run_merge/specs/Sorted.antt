-- The records of several tapes, and the one list of them in order (mergeruns of tuplesort.c: all runs become one).
use Rattle.std.specs.Prelude.{◌≡◌, ◌≢◌, List, All, AllPairs}
use Rattle.std.specs.List.{flat_map}
use Rattle.std.specs.List.Sorted.{IsPermutation}
use Rattle.std.specs.declared.cmp.Ordering.TheVariants.{Less}
use Rattle.pg_bytes.specs.declared.row_ptr.RowPtr.{RowPtr}
use Rattle.opclass.specs.declared.value.KeyVal.{KeyVal}
use Rattle.opclass.specs.declared.spec.SortPart.{SortPart}
use Rattle.shared_tape.specs.declared.stored.Record.{Record}
use Rattle.shared_tape.specs.Stored.{record_cmp}
use Rattle.shared_tape.specs.Runs.{RunView, IsAscending, records_of}

-- the records of several tapes, one tape after the other
abbrev pub all_records : List (List RunView) → List Record
all_records tapes = flat_map records_of tapes

-- each run has this order
abbrev pub HaveOrder : List SortPart → List RunView → Type 0
HaveOrder order runs = All (λ run. run.order ≡ order) runs

-- each run of each tape has this order
abbrev pub AllHaveOrder : List SortPart → List (List RunView) → Type 0
AllHaveOrder order tapes = All (HaveOrder order) tapes

-- these records in their order: as often as they were there, and none below the one before it
pub record IsSortedRecords (order : List SortPart) (records sorted : List Record) : Type 0 where
  pub same : IsPermutation records sorted
  pub ascending : IsAscending order sorted

-- the keys and the row pointer of a record
abbrev pub row_of : Record → List KeyVal × RowPtr
row_of row = (row.keys, row.ptr)

-- no two of them have equal keys and row pointers, as no two rows of a heap do
abbrev pub AreApart : List Record → Type 0
AreApart records = AllPairs (λ a b. row_of a ≢ row_of b) records

-- each is below all that stand behind it
abbrev pub AscendStrictly : List SortPart → List Record → Type 0
AscendStrictly order records = AllPairs (λ a b. record_cmp order a b ≡ Less) records
