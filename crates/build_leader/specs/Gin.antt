-- What the packing of a GIN index asks and gives (ginbuild of gininsert.c).
use Rattle.std.specs.Prelude.{◌≡◌, ◌^◌, ◌<◌, ℕ, List, [], ◌∷◌, ◌++◌, length, All}
use Rattle.opclass.specs.declared.spec.SortPart.{SortPart}
use Rattle.opclass.specs.declared.types.ColType.{ColType}
use Rattle.gin_entry.specs.EntryMap.{Posting}
use Rattle.gin_entry.specs.EntryOrder.{entry_order}
use Rattle.gin_pack.specs.File.{IsGinFile}
use Rattle.gin_pack.specs.Postings.{ArePostingsOf, KeysPart}
use Rattle.gin_pack.specs.Records.{IsEntryRecord}
use Rattle.shared_tape.specs.declared.stored.Record.{Record}
use Rattle.run_merge.specs.Sorted.{AreApart, AscendStrictly, IsSortedRecords}

-- One file has fewer records than this: the packer numbers no more. A heap of one segment has fewer, since each entry
-- of a row takes at least four of its 2^30 bytes, but no contract rests on that.
abbrev pub most_records : ℕ
most_records = 2 ^ 30

-- a count is that of these records, which one file may have
pub record CountsRecords (records : List Record) (count : ℕ) : Type 0 where
  pub count_is : count ≡ length records
  pub few : count < most_records

-- records of entries, and the order that sorts them, for an index over one column of arrays
pub record AreEntries (kinds : List ColType) (parts : List SortPart) (records : List Record) : Type 0 where
  pub kind : ColType
  pub one : kinds ≡ kind ∷ []
  pub order : parts ≡ entry_order
  pub entries : All (IsEntryRecord kind) records
  pub apart : AreApart records
  pub few : length records < most_records

-- postings are those of such records, which a part has
pub record IsPostingRun (kind : ColType) (parts : List SortPart) (records : List Record) (run : List Posting) : Type 0 where
  pub sorted : List Record
  pub in_order : IsSortedRecords parts records sorted
  pub are : ArePostingsOf kind sorted run

-- Runs of postings have records behind others, run by run: they ascend, no run has a record whose keys a run before has,
-- and each has as few as a packer takes.
abbrev pub HoldEntries : ColType → List Record → List (List Posting) → List Record → Type 0
HoldEntries kind before [] records = before ≡ records
HoldEntries kind before (run ∷ runs) records =
    (more : List Record) × (ArePostingsOf kind more run × AscendStrictly entry_order (before ++ more) × KeysPart before more
    × (length more < most_records) × HoldEntries kind (before ++ more) runs records)

-- a file is that of the records that runs have, if they have some
abbrev pub IsFileOfPostings : ColType → List (List Posting) → List ℕ → Type 0
IsFileOfPostings kind runs file = (records : List Record) → HoldEntries kind [] runs records → IsGinFile kind records file

-- a file is that of records of entries, in an index over one column of arrays
pub record IsEntryFile (kinds : List ColType) (records : List Record) (file : List ℕ) : Type 0 where
  pub kind : ColType
  pub one : kinds ≡ kind ∷ []
  pub file_is : IsGinFile kind records file
