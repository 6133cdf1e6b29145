-- What holds of records in their order and of their parts, whatever the records are.
use Rattle.std.specs.Prelude.{◌≡◌, ◌≢◌, ℕ, ◌+◌, ◌≤◌, List, length, All, slice_index_or, [], IsTrue}
use Rattle.std.specs.List.{flat_map}
use Rattle.std.specs.List.Sorted.{IsSorted}
use Rattle.std.specs.declared.cmp.Ordering.TheVariants.{Equal}
use Rattle.opclass.specs.declared.spec.SortPart.{SortPart}
use Rattle.opclass.specs.Order.{bytes_cmp, key_cmp}
use Rattle.shared_tape.specs.declared.stored.Record.{Record}
use Rattle.shared_tape.specs.Stored.{IsStorable}
use Rattle.shared_tape.specs.Runs.{RunView}
use Rattle.run_merge.specs.Sorted.{IsSortedRecords, AreApart, AscendStrictly, AllHaveOrder, all_records}
use Rattle.run_merge.specs.Merging.{Merging, GivesAll}
use Rattle.run_merge.specs.Cutting.{AreCuts, is_in_part, key_list, part_of}

-- records of which no two have equal keys and row pointers ascend strictly in their order
abbrev pub SortedRecordsAscendStrictly : Type 0
SortedRecordsAscendStrictly =
    (order : List SortPart) (records sorted : List Record) → AreApart records
    → IsSortedRecords order records sorted → AscendStrictly order sorted

-- and there is only one list of them in order
abbrev pub SortedRecordsAreOne : Type 0
SortedRecordsAreOne =
    (order : List SortPart) (records a b : List Record) → AreApart records
    → IsSortedRecords order records a → IsSortedRecords order records b → a ≡ b

-- what a merge gives until it has none are its records in order
abbrev pub MergesGiveSorted : Type 0
MergesGiveSorted =
    (merge : Merging) (rows : List Record) → GivesAll merge rows → IsSortedRecords merge.order merge.left rows

-- and where they stand in order already, they are given as they stand
abbrev pub OrderedAreGivenInPlace : Type 0
OrderedAreGivenInPlace =
    (merge : Merging) (rows : List Record) → IsTrue merge.in_order → GivesAll merge rows → rows ≡ merge.left

-- the parts between ascending cuts, each in order, are the whole in order when they are put behind each other
abbrev pub PartsAreTheWhole : Type 0
PartsAreTheWhole =
    (order : List SortPart) (records : List Record) (cuts : List (List ℕ)) (parts : List (List Record))
    → All (IsStorable order) records → IsSorted bytes_cmp cuts → length parts ≡ length cuts + 1
    → ((part : ℕ) → part ≤ length cuts
    → IsSortedRecords order (part_of order cuts part records) (slice_index_or parts part []))
    → IsSortedRecords order records (flat_map (λ part. part) parts)

-- records with equal keys stand in the same parts between the key cuts of tapes
abbrev pub EqualKeysStayTogether : Type 0
EqualKeysStayTogether =
    (order : List SortPart) (tapes : List (List RunView)) (parts : ℕ) (cuts : List (List ℕ)) → AllHaveOrder order tapes
    → All (IsStorable order) (all_records tapes) → AreCuts key_list tapes parts cuts
    → (a b : Record) → IsStorable order a → IsStorable order b → key_cmp order a.keys b.keys ≡ Equal
    → (part : ℕ) → is_in_part order cuts part a ≡ is_in_part order cuts part b

-- and no two of these parts have records with equal keys
abbrev pub PartsShareNoKeys : Type 0
PartsShareNoKeys =
    (order : List SortPart) (tapes : List (List RunView)) (parts : ℕ) (cuts : List (List ℕ)) → AllHaveOrder order tapes
    → All (IsStorable order) (all_records tapes) → AreCuts key_list tapes parts cuts
    → (a b : Record) → IsStorable order a → IsStorable order b → (i j : ℕ) → i ≤ length cuts → j ≤ length cuts → i ≢ j
    → IsTrue (is_in_part order cuts i a) → IsTrue (is_in_part order cuts j b) → key_cmp order a.keys b.keys ≢ Equal
