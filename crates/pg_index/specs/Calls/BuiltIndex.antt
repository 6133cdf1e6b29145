-- An index that stands in memory.
use Rattle.std.specs.Prelude.{◌≡◌, ◌+◌, ◌≤◌, ⊤, ℕ, List, string_bytes}
use Rattle.pg_bytes.specs.Blocks.{block_count}
use Rattle.block_claim.specs.Legal.{IsLegal}
use Rattle.build_leader.specs.Outcome.{Faulty, Duplicate, Indexed, RangeWide, IsIndexFile}
use Rattle.build_leader.specs.declared.fault.LeadFault.TheVariants as lead
use Rattle.shared_tape.specs.declared.stored.Record.{Record}
use Rattle.pg_index.specs.Outcome.{HasHeapOutcome, OfBlocks, OfFile}
use Rattle.pg_index.specs.Report.{report_of}
use Rattle.pg_index.specs.Run.{Made, Told, told_of}
use Rattle.pg_index.specs.Words.{most_workers}
use Rattle.pg_index.specs.declared.built_index.BuiltIndex.{BuiltIndex}
use Rattle.pg_index.specs.declared.built_index.Manner.{Manner}
use Rattle.pg_index.specs.declared.fault.HeapFault.{HeapFault}
use Rattle.pg_index.specs.declared.fault.HeapFault.TheVariants.{File, Lead}
use Rattle.pg_index.specs.declared.statements.Asked.{Asked}

-- a manner in which indexes are built
pub record IsManner (manner : Manner) : Type 0 where
  pub workers : manner.workers ≤ most_workers
  pub run_rows : 1 ≤ manner.run_rows

-- what is told of it
abbrev pub told_of_index : BuiltIndex → Told
told_of_index index = record { rows = index.rows; blocks = index.blocks; claims = index.claims }

-- what was made of a heap where it has these rows
abbrev pub made_of : List ℕ → BuiltIndex → List Record → Made
made_of heap index rows = record {
  rows = rows;
  image = index.image;
  heap_blocks = block_count heap;
  claims = index.claims;
}

-- a file of the index of the rows that the heap comes to, its report, and who claimed the heap's blocks
pub record IsIndexOf (asked : Asked) (manner : Manner) (heap : List ℕ) (index : BuiltIndex) : Type 0 where
  pub taken : List Record
  pub outcome : HasHeapOutcome asked heap (OfBlocks (Indexed taken))
  pub file : IsIndexFile asked.table asked.spec (block_count heap) taken index.image
  pub report : string_bytes index.report
      ≡ report_of manner.tells_claims index.claims asked.spec.method index.rows index.blocks
  pub told : told_of_index index ≡ told_of (made_of heap index taken)
  pub legal : IsLegal (block_count heap) (manner.workers + 1) index.claims

-- why there is none
abbrev pub IsHeapFault : Asked → List ℕ → HeapFault → Type 0
IsHeapFault asked heap (File file) = HasHeapOutcome asked heap (OfFile file.cause file.block)
IsHeapFault asked heap (Lead (lead.Row block item cause)) =
    HasHeapOutcome asked heap (OfBlocks (Faulty block item cause))
IsHeapFault asked heap (Lead (lead.Duplicate first second)) =
    HasHeapOutcome asked heap (OfBlocks (Duplicate first second))
IsHeapFault asked heap (Lead (lead.RangeWide range size)) =
    HasHeapOutcome asked heap (OfBlocks (RangeWide range size))
IsHeapFault asked heap (Lead lead.Memory) = ⊤
