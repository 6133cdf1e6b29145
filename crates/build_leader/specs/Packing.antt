-- What workers have of a heap's rows, and the file that is packed of it.
use Rattle.std.specs.Prelude.{◌≡◌, ℕ, List, All, length, None}
use Rattle.pg_bytes.specs.Blocks.{block_count}
use Rattle.brin_summary.specs.declared.file.BrinFault.{BrinFault}
use Rattle.brin_summary.specs.Answer.{IsTold, wide_range}
use Rattle.brin_summary.specs.File.{brin_file}
use Rattle.shared_tape.specs.declared.stored.Record.{Record}
use Rattle.shared_tape.specs.Runs.{RunView}
use Rattle.shared_tape.specs.Stored.{IsStorable}
use Rattle.run_merge.specs.Sorted.{AllHaveOrder, all_records}
use Rattle.build_leader.specs.declared.fault.LeadFault.{LeadFault}
use Rattle.build_leader.specs.declared.plan.Plan.{Plan}
use Rattle.brin_summary.specs.declared.ranges.SummedRange.{SummedRange}
use Rattle.build_leader.specs.declared.taken.Packed.{Packed}
use Rattle.build_leader.specs.Blocks.{IsHeapFile}
use Rattle.build_leader.specs.Calls.{fault_of_ranges}
use Rattle.build_leader.specs.IndexRow.{index_kinds}
use Rattle.build_leader.specs.Ranges.{range_count, told_ranges}
use Rattle.build_leader.specs.Gin.{IsEntryFile}
use Rattle.build_leader.specs.HeapRows.{AreHeapRows, HasSoundBlocks}
use Rattle.build_leader.specs.Holding.{HoldRows, held_on, order_by}
use Rattle.build_leader.specs.Outcome.{AreIndexed, IsIndexFile, pairs_by}

-- tapes and ranges hold the rows of an index over a heap without a fault, and so many they are
pub record HaveHeapRows (plan : Plan) (heap : List ℕ) (tapes : List (List RunView)) (ranges : List (List SummedRange))
    (count : ℕ) : Type 0 where
  pub whole : IsHeapFile heap
  pub sound : HasSoundBlocks plan.table plan.spec heap
  pub rows : List Record
  pub of_heap : AreHeapRows plan.table plan.spec heap rows
  pub held : HoldRows plan.spec rows (held_on tapes ranges)
  pub counted : count ≡ length rows
  -- the runs are ones that a merge takes
  pub order : AllHaveOrder (order_by plan.spec.method plan.spec) tapes
  pub storable : All (IsStorable (order_by plan.spec.method plan.spec)) (all_records tapes)

-- a file and its pairs are those of so many rows of an index over a heap
pub record IsPackedOf (plan : Plan) (heap : List ℕ) (count : ℕ) (packed : Packed) : Type 0 where
  pub taken : List Record
  pub indexed : AreIndexed plan.table plan.spec heap taken
  pub image : IsIndexFile plan.table plan.spec (block_count heap) taken packed.image
  pub pairs : packed.pairs ≡ pairs_by plan.spec.method plan.spec (block_count heap) taken
  pub counted : count ≡ length taken

-- a file is that of what workers tell of the ranges of so many blocks, all of which have room
pub record AreSummariesPacked (plan : Plan) (blocks : ℕ) (ranges : List SummedRange) (packed : Packed) : Type 0 where
  pub fit : wide_range (index_kinds plan.table plan.spec) (told_ranges plan.spec blocks ranges) ≡ None
  pub image :
      packed.image
      ≡ brin_file (index_kinds plan.table plan.spec) plan.spec.pages_per_range (told_ranges plan.spec blocks ranges)
  pub pairs : packed.pairs ≡ range_count plan.spec.pages_per_range blocks

-- why there is none: the least wide range, or want of memory
pub record IsRangeFault (plan : Plan) (blocks : ℕ) (ranges : List SummedRange) (fault : LeadFault) : Type 0 where
  pub told : BrinFault
  pub is : IsTold (index_kinds plan.table plan.spec) (told_ranges plan.spec blocks ranges) told
  pub fault_is : fault ≡ fault_of_ranges told

-- a file is that of these records of entries, and so many they are
pub record AreEntriesPacked (plan : Plan) (records : List Record) (packed : Packed) : Type 0 where
  pub image : IsEntryFile (index_kinds plan.table plan.spec) records packed.image
  pub pairs : packed.pairs ≡ length records
