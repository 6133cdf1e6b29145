-- What the passes over runs keep.
use Rattle.std.specs.Prelude.{◌≡◌, ℕ, ◌<◌, ◌≤◌, ◌++◌, Bool, true, false, Option, List, All, filter, take, drop, length, slice_index_or, map}
use Rattle.std.specs.Borrow.{Bor}
use Rattle.std.specs.List.{flat_map}
use Rattle.shared_tape.specs.declared.stored.Record.{Record}
use Rattle.shared_tape.specs.Runs.{RunView, records_of, IsAscending, order_list}
use Rattle.run_merge.specs.declared.head.Head.{Head}
use Rattle.run_merge.specs.Heads.{no_run, left_of}
use Rattle.run_merge.specs.Merging.{Merging, IsFirstOf, GivesInto}
use Rattle.run_merge.specs.Sorted.{AllHaveOrder}
use Rattle.std.specs.List.Sorted.{IsPermutation}
use Rattle.opclass.specs.declared.spec.SortPart.{SortPart}
use Rattle.run_merge.specs.declared.cutting.Sampled.{Sampled}
use Rattle.run_merge.specs.declared.cutting.Sampled.TheVariants.{OrderBytes, Key}
use Rattle.run_merge.specs.Cutting.{is_from, is_below, is_between, key_list}

-- the records of a run that lie between two cuts
abbrev pub records_between : Option (List ℕ) → Option (List ℕ) → RunView → List Record
records_between low high run = filter (is_between run.order low high) run.records

-- the records of a tape that do
abbrev pub between_of : Option (List ℕ) → Option (List ℕ) → List RunView → List Record
between_of low high runs = flat_map (records_between low high) runs

-- the records of all tapes that do
abbrev pub all_between : Option (List ℕ) → Option (List ℕ) → List (List RunView) → List Record
all_between low high tapes = flat_map (between_of low high) tapes

-- the place of a run from which on its records aren't below a cut, if there is one
pub record BeginsAt (low : Option (List ℕ)) (run : RunView) (place : ℕ) : Type 0 where
  pub within : place ≤ length run.records
  pub before : All (λ bytes. is_from low bytes ≡ false) (take place (order_list run))
  pub behind : All (λ bytes. is_from low bytes ≡ true) (drop place (order_list run))

-- the place of a run up to which its records are below a cut, if there is one
pub record EndsAt (high : Option (List ℕ)) (run : RunView) (place : ℕ) : Type 0 where
  pub within : place ≤ length run.records
  pub before : All (λ bytes. is_below high bytes ≡ true) (take place (order_list run))
  pub behind : All (λ bytes. is_below high bytes ≡ false) (drop place (order_list run))

-- the records from a place of a run on, and those of the runs behind it
abbrev pub left_in : List RunView → ℕ → ℕ → List Record
left_in runs run at = drop at (records_of (drop run runs))

-- a place of a record of these runs, or the place past their end
pub record StandsAt (runs : List RunView) (run at : ℕ) : Type 0 where
  pub within : run ≤ length runs
  pub there : run < length runs → at < length (slice_index_or runs run no_run).records
  pub past : run ≡ length runs → at ≡ 0

-- records that were merged, and those that are left: together they are the whole, the merged ones ascend, and none
-- that is left is below one of them
pub record AreMerged (order : List SortPart) (whole merged left : List Record) : Type 0 where
  pub same : IsPermutation whole (merged ++ left)
  pub ascending : IsAscending order merged
  pub below : All (λ row. IsFirstOf order row left) merged

-- the bytes of several slices
abbrev pub bytes_of : List (Bor (List ℕ)) → List (List ℕ)
bytes_of slices = map (λ slice. slice.now) slices

-- what samples have of the records of a run
abbrev pub bytes_sampled : Sampled → RunView → List (List ℕ)
bytes_sampled OrderBytes run = order_list run
bytes_sampled Key run = key_list run

-- the merge of what heads have left
abbrev pub merging_by : List SortPart → List (List RunView) → List Head → Merging
merging_by order tapes heads = record { order = order; left = left_of tapes heads; in_order = false }

-- heads give a record, or none, as a merge does, in the order that all runs have
abbrev pub HeadsGive : List (List RunView) → List Head → List Head → Bool → Record → Type 0
HeadsGive tapes old new given row =
    (order : List SortPart) → AllHaveOrder order tapes
    → GivesInto (merging_by order tapes old) (merging_by order tapes new) given row
