-- What the blocks of a heap come to for an index, whoever scans them and in whatever order.
use Rattle.std.specs.Prelude.{◌≡◌, ⊤, ℕ, IsTrue, List, length, map, None, Some}
use Rattle.pg_bytes.specs.Blocks.{block_count}
use Rattle.pg_bytes.specs.declared.row_ptr.RowPtr.{RowPtr}
use Rattle.opclass.specs.declared.spec.IndexSpec.{IndexSpec}
use Rattle.opclass.specs.declared.spec.SortPart.{SortPart}
use Rattle.opclass.specs.declared.table.Table.{Table}
use Rattle.opclass.specs.declared.types.Method.{Method}
use Rattle.opclass.specs.declared.types.Method.TheVariants.{BTree, Brin, Gin}
use Rattle.shared_tape.specs.declared.stored.Record.{Record}
use Rattle.run_merge.specs.Sorted.{IsSortedRecords}
use Rattle.btree_pack.specs.Images.{images_of}
use Rattle.btree_pack.specs.Nodes.{btree_file}
use Rattle.btree_pack.specs.Pass.Taken.{row_of}
use Rattle.brin_summary.specs.Answer.{wide_range}
use Rattle.brin_summary.specs.File.{brin_file}
use Rattle.build_leader.specs.Entries.{IsGinIndexOf, rows_entries}
use Rattle.build_leader.specs.HeapRows.{AreHeapRows, HasSoundBlocks, IsFirstFault}
use Rattle.build_leader.specs.IndexRow.{index_kinds}
use Rattle.build_leader.specs.Ranges.{range_count, range_summaries}
use Rattle.build_leader.specs.Unique.{IsFirstClash, NoneClash}

-- the order of an index's rows: that of its key columns
abbrev pub order_of_index : IndexSpec → List SortPart
order_of_index spec =
    map (λ key. record { descending = key.descending; nulls_first = key.nulls_first }) spec.keys

-- the rows of an index over a heap in their order
pub record AreSortedRows (table : Table) (spec : IndexSpec) (heap : List ℕ) (sorted : List Record) : Type 0 where
  pub rows : List Record
  pub of_heap : AreHeapRows table spec heap rows
  pub in_order : IsSortedRecords (order_of_index spec) rows sorted

-- the rows as an index takes them, by its method: a B-tree in its order, the others as they stand in the heap
abbrev pub AreTakenRows : Method → Table → IndexSpec → List ℕ → List Record → Type 0
AreTakenRows BTree table spec heap rows = AreSortedRows table spec heap rows
AreTakenRows other table spec heap rows = AreHeapRows table spec heap rows

-- what a method asks of the rows together: a unique B-tree that no neighbours break its rule, a BRIN index that each
-- range's tuple has room on a page
abbrev pub AreAccepted : Method → Table → IndexSpec → List ℕ → List Record → Type 0
AreAccepted BTree table spec heap rows = IsTrue spec.unique → NoneClash spec rows
AreAccepted Brin table spec heap rows =
    wide_range (index_kinds table spec) (range_summaries spec (block_count heap) rows) ≡ None
AreAccepted Gin table spec heap rows = ⊤

-- the rows that an index over the heap has
pub record AreIndexed (table : Table) (spec : IndexSpec) (heap : List ℕ) (rows : List Record) : Type 0 where
  pub are : AreTakenRows spec.method table spec heap rows
  pub accepted : AreAccepted spec.method table spec heap rows

-- what the blocks come to: their first fault by block, item and cause; or the first two rows that break the unique rule;
-- or the least range whose tuple no page takes, with the tuple's size; or the rows of the index
pub data BuildOutcome : Type 0 where
  Faulty : ℕ → ℕ → ℕ → BuildOutcome
  Duplicate : RowPtr → RowPtr → BuildOutcome
  RangeWide : ℕ → ℕ → BuildOutcome
  Indexed : List Record → BuildOutcome

-- in the order of refusals: first the blocks, then the rows together
abbrev pub HasBuildOutcome : Table → IndexSpec → List ℕ → BuildOutcome → Type 0
HasBuildOutcome table spec heap (Faulty block item cause) = IsFirstFault table spec heap block item cause
HasBuildOutcome table spec heap (Duplicate first second) =
    HasSoundBlocks table spec heap × (spec.method ≡ BTree) × IsTrue spec.unique
    × ((sorted : List Record) × AreSortedRows table spec heap sorted × IsFirstClash spec sorted first second)
HasBuildOutcome table spec heap (RangeWide range size) =
    HasSoundBlocks table spec heap × (spec.method ≡ Brin)
    × ((rows : List Record) × AreHeapRows table spec heap rows
    × (wide_range (index_kinds table spec) (range_summaries spec (block_count heap) rows)
    ≡ Some (record { range = range; size = size })))
HasBuildOutcome table spec heap (Indexed rows) =
    HasSoundBlocks table spec heap × AreIndexed table spec heap rows

-- the file of an index over its rows, by its method: for a B-tree and a BRIN index the one file of the definition, for a
-- GIN index one that is read as the map of the rows
abbrev pub IsFileBy : Method → Table → IndexSpec → ℕ → List Record → List ℕ → Type 0
IsFileBy BTree table spec blocks rows file =
    file ≡ btree_file (images_of (index_kinds table spec) (length spec.keys)) spec (map row_of rows)
IsFileBy Brin table spec blocks rows file =
    file ≡ brin_file (index_kinds table spec) spec.pages_per_range (range_summaries spec blocks rows)
IsFileBy Gin table spec blocks rows file = IsGinIndexOf (index_kinds table spec) rows file

abbrev pub IsIndexFile : Table → IndexSpec → ℕ → List Record → List ℕ → Type 0
IsIndexFile table spec blocks rows file = IsFileBy spec.method table spec blocks rows file

-- how many pairs an index has: of a key and a row pointer, of an entry and a row pointer, or of a range and its summary
abbrev pub pairs_by : Method → IndexSpec → ℕ → List Record → ℕ
pairs_by BTree spec blocks rows = length rows
pairs_by Brin spec blocks rows = range_count spec.pages_per_range blocks
pairs_by Gin spec blocks rows = length (rows_entries rows)
