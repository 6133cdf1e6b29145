-- What workers hold of the rows that they took, by the index's method: a B-tree's rows and a GIN index's entries stand in
-- runs, of a BRIN index's rows a summary of each range is kept.
use Rattle.std.specs.Prelude.{◌≡◌, ◌<◌, ◌≤◌, ℕ, List, [], ◌++◌, length}
use Rattle.std.specs.List.{flat_map}
use Rattle.std.specs.List.Sorted.{IsPermutation}
use Rattle.opclass.specs.declared.spec.IndexSpec.{IndexSpec}
use Rattle.opclass.specs.declared.spec.SortPart.{SortPart}
use Rattle.opclass.specs.declared.types.Method.{Method}
use Rattle.opclass.specs.declared.types.Method.TheVariants.{BTree, Brin, Gin}
use Rattle.gin_entry.specs.EntryOrder.{entry_order}
use Rattle.shared_tape.specs.declared.stored.Record.{Record}
use Rattle.shared_tape.specs.Runs.{RunView}
use Rattle.shared_tape.specs.Stored.{IsStorable}
use Rattle.spool.specs.Gathers.{AreStorableEntries}
use Rattle.run_merge.specs.Sorted.{all_records}
use Rattle.brin_summary.specs.declared.ranges.SummedRange.{SummedRange}
use Rattle.build_leader.specs.declared.scan.sink.Sink.{Sink}
use Rattle.build_leader.specs.declared.scan.sink.Sink.TheVariants.{Rows, Entries, Ranges}
use Rattle.build_leader.specs.Entries.{array_of, rows_entries}
use Rattle.build_leader.specs.Outcome.{order_of_index}
use Rattle.build_leader.specs.Ranges.{HoldRanges}
use Rattle.build_leader.specs.Tally.{AreOfColumns}

-- records in runs, and summaries of ranges
pub record Held : Type 0 where
  pub records : List Record
  pub ranges : List SummedRange

-- these are rows of an index, or their entries, or the summaries of their ranges, and nothing else
abbrev pub HoldBy : Method → IndexSpec → List Record → Held → Type 0
HoldBy BTree spec rows held = IsPermutation rows held.records × (held.ranges ≡ [])
HoldBy Brin spec rows held = (held.records ≡ []) × HoldRanges spec rows held.ranges
HoldBy Gin spec rows held = IsPermutation (rows_entries rows) held.records × (held.ranges ≡ [])

abbrev pub HoldRows : IndexSpec → List Record → Held → Type 0
HoldRows spec rows held = HoldBy spec.method spec rows held

-- what two workers hold together
abbrev pub held_together : Held → Held → Held
held_together a b = record { records = a.records ++ b.records; ranges = a.ranges ++ b.ranges }

-- the ranges of several workers
abbrev pub all_ranges : List (List SummedRange) → List SummedRange
all_ranges parts = flat_map (λ part. part) parts

-- what stands on tapes and in parts of ranges
abbrev pub held_on : List (List RunView) → List (List SummedRange) → Held
held_on tapes parts = record { records = all_records tapes; ranges = all_ranges parts }

-- the order of the runs, by the index's method: of its rows or of its entries
abbrev pub order_by : Method → IndexSpec → List SortPart
order_by BTree spec = order_of_index spec
order_by Brin spec = order_of_index spec
order_by Gin spec = entry_order

-- ---- what rows go into

-- what has been put into a sink
abbrev pub held_by : Sink → Held
held_by (Rows spool) = record { records = spool.records; ranges = [] }
held_by (Entries gather) = record { records = gather.records; ranges = [] }
held_by (Ranges tally) = record { records = []; ranges = tally.ranges.items }

-- a sink is one for rows of an index, in runs of at most so many
abbrev pub IsSinkOf : IndexSpec → ℕ → Sink → Type 0
IsSinkOf spec run_rows (Rows spool) =
    (spec.method ≡ BTree) × (spool.order ≡ order_of_index spec) × (spool.run_rows ≡ run_rows)
IsSinkOf spec run_rows (Entries gather) = (spec.method ≡ Gin) × (gather.run_rows ≡ run_rows)
IsSinkOf spec run_rows (Ranges tally) =
    (spec.method ≡ Brin) × (1 ≤ tally.pages_per_range) × (tally.pages_per_range ≡ spec.pages_per_range)
    × (tally.columns ≡ length spec.keys) × AreOfColumns tally.columns tally.ranges.items

abbrev pub Suits : IndexSpec → Sink → Type 0
Suits spec sink = (run_rows : ℕ) × IsSinkOf spec run_rows sink

-- it stays one for the same rows in the same runs
abbrev pub StaysSuited : Sink → Sink → Type 0
StaysSuited old new = (spec : IndexSpec) (run_rows : ℕ) → IsSinkOf spec run_rows old → IsSinkOf spec run_rows new

-- a sink takes this row
abbrev pub CanTake : Sink → Record → Type 0
CanTake (Rows spool) row = IsStorable spool.order row
CanTake (Entries gather) row = (0 < length row.keys) × AreStorableEntries (array_of row) row.ptr
CanTake (Ranges tally) row =
    (1 ≤ tally.pages_per_range) × (length row.keys ≡ tally.columns) × AreOfColumns tally.columns tally.ranges.items

-- and one for an index does, by the index's method
abbrev pub IsTakeableBy : Method → IndexSpec → Record → Type 0
IsTakeableBy BTree spec row = IsStorable (order_of_index spec) row
IsTakeableBy Brin spec row = length row.keys ≡ length spec.keys
IsTakeableBy Gin spec row = (0 < length row.keys) × AreStorableEntries (array_of row) row.ptr

abbrev pub IsTakeable : IndexSpec → Record → Type 0
IsTakeable spec row = IsTakeableBy spec.method spec row

-- a sink took these rows, whatever it had before
abbrev pub TakesInto : IndexSpec → Sink → List Record → Sink → Type 0
TakesInto spec old rows new =
    (before : List Record) → HoldRows spec before (held_by old) → HoldRows spec (before ++ rows) (held_by new)
