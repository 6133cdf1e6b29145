-- Runs and tapes as contracts see them (runs of tuplesort.c, tapes of logtape.c): lists of records, whose bytes are
-- nowhere above.
use Rattle.std.specs.Prelude.{ℕ, ◌+◌, List, ◌++◌, length, map, All, sum_by}
use Rattle.std.specs.List.{flat_map, slice_range}
use Rattle.std.specs.List.Sorted.{IsSorted}
use Rattle.opclass.specs.declared.spec.SortPart.{SortPart}
use Rattle.shared_tape.specs.declared.stored.Record.{Record}
use Rattle.shared_tape.specs.Stored.{record_cmp, order_bytes, IsStorable}

-- a run as contracts see it, sorted or not yet: its order and its records
pub record RunView : Type 0 where
  pub order : List SortPart
  pub records : List Record

-- no record is below the one before it
abbrev pub IsAscending : List SortPart → List Record → Type 0
IsAscending order records = IsSorted (record_cmp order) records

-- what is true of each run that is sorted
pub record IsRun (run : RunView) : Type 0 where
  pub ascending : IsAscending run.order run.records
  pub storable : All (IsStorable run.order) run.records

-- the order bytes of a run's records
abbrev pub order_list : RunView → List (List ℕ)
order_list run = map (order_bytes run.order) run.records

-- records with the one that stands at a place of a run behind them
abbrev pub with_record_of : RunView → ℕ → List Record → List Record
with_record_of run at records = records ++ slice_range run.records at (at + 1)

-- the records of a tape, one run after the other
abbrev pub records_of : List RunView → List Record
records_of runs = flat_map (λ run. run.records) runs

-- how many records the runs of a tape have together
abbrev pub record_count : List RunView → ℕ
record_count runs = sum_by (λ run. length run.records) runs
