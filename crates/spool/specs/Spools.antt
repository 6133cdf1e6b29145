-- A spool as contracts see it (dumptuples of tuplesort.c: the tuples that were put are sorted and written as a run
-- whenever there are as many as memory takes). Here a run is bounded by a number of rows.
use Rattle.std.specs.Prelude.{◌≡◌, ℕ, ◌≤◌, List, [], ◌∷◌, ◌++◌, length, All}
use Rattle.std.specs.List.Sorted.{IsPermutation}
use Rattle.opclass.specs.declared.spec.SortPart.{SortPart}
use Rattle.shared_tape.specs.declared.stored.Record.{Record}
use Rattle.shared_tape.specs.Runs.{RunView, IsRun, records_of}

-- a spool: how many rows a run has at most, the order of the runs, and the records put, in some order
pub record SpoolView : Type 0 where
  pub run_rows : ℕ
  pub order : List SortPart
  pub records : List Record

-- a spool took a record, and its bound and its order stayed
pub record TakesRecord (old : SpoolView) (row : Record) (new : SpoolView) : Type 0 where
  pub run_rows : new.run_rows ≡ old.run_rows
  pub order : new.order ≡ old.order
  pub records : IsPermutation (old.records ++ row ∷ []) new.records

-- a sorted run of this order with at most so many rows
pub record IsBoundedRun (order : List SortPart) (most : ℕ) (run : RunView) : Type 0 where
  pub same_order : run.order ≡ order
  pub few : length run.records ≤ most
  pub sorted : IsRun run

-- the runs of a spool's tape
abbrev pub AreBoundedRuns : List SortPart → ℕ → List RunView → Type 0
AreBoundedRuns order most runs = All (IsBoundedRun order most) runs

-- the records of full runs and of the one that rows go into
abbrev pub spooled : List RunView → List Record → List Record
spooled full current = records_of full ++ current
