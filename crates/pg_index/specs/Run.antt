-- What a build answers, and what it leaves outside.
use Rattle.std.specs.Prelude.{IsSome, ◌≡◌, ◌⊎◌, ◌+◌, ℕ, List, [], length, Option, Some, None}
use Rattle.pg_bytes.specs.Blocks.{block_count}
use Rattle.pg_files.specs.Outside.{OnlyReads, Outside}
use Rattle.block_claim.specs.declared.claim.Claim.{Claim}
use Rattle.block_claim.specs.Legal.{IsLegal}
use Rattle.opclass.specs.Indexes.{IsIndexOver}
use Rattle.build_leader.specs.Outcome.{Faulty, Duplicate, Indexed, RangeWide, IsIndexFile}
use Rattle.shared_tape.specs.declared.stored.Record.{Record}
use Rattle.pg_index.specs.HeapFile.{OnToldFile, number_of_file_cause}
use Rattle.pg_index.specs.IndexFile.{Delivery, IsCutShort, IsDelivered, delivery}
use Rattle.pg_index.specs.Outcome.{Asks, HasHeapOutcome, HasOutcome, Outcome, Usage, Statement, OfHeap, OfFile, OfBlocks}
use Rattle.pg_index.specs.Report.{report_of}
use Rattle.pg_index.specs.declared.statements.Asked.{Asked}
use Rattle.pg_index.specs.Words.{IsInGrammar, heap_name, index_name, wants_claims, workers_of}
use Rattle.pg_index.specs.declared.fault.Fault.{Fault}
use Rattle.pg_index.specs.declared.fault.Fault.TheVariants as faults

-- the fault that tells what a run came to: none where the index is built
abbrev pub fault_of : Outcome → Option Fault
fault_of (Usage word) = Some (faults.Usage word)
fault_of (Statement fault) = Some (faults.Statement fault)
fault_of (OfHeap (OfFile cause block)) = Some (faults.Heap block 0 (number_of_file_cause cause))
fault_of (OfHeap (OfBlocks (Faulty block item cause))) = Some (faults.Heap block item cause)
fault_of (OfHeap (OfBlocks (Duplicate first second))) = Some (faults.Duplicate first second)
fault_of (OfHeap (OfBlocks (RangeWide range size))) = Some (faults.RangeWide range size)
fault_of (OfHeap (OfBlocks (Indexed rows))) = None

-- what an end tells beside its fault: how many rows and blocks, and who claimed which blocks
pub record Told : Type 0 where
  pub rows : ℕ
  pub blocks : ℕ
  pub claims : List Claim

-- where nothing was built
abbrev pub nothing : Told
nothing = record { rows = 0; blocks = 0; claims = [] }

-- an index that was made: its rows, its file, how many blocks the heap has, and who claimed which
pub record Made : Type 0 where
  pub rows : List Record
  pub image : List ℕ
  pub heap_blocks : ℕ
  pub claims : List Claim

-- what is told of it
abbrev pub told_of : Made → Told
told_of made = record { rows = length made.rows; blocks = block_count made.image; claims = made.claims }

-- what is delivered of it
abbrev pub delivery_of : List (List ℕ) → Asked → Made → Delivery
delivery_of words asked made =
    let told = told_of made in
    delivery (index_name words) made.image
    (report_of (wants_claims words) made.claims asked.spec.method told.rows told.blocks)

-- The words ask for an index, the heap file comes to its rows, the leader and its workers claimed the heap's blocks so,
-- and this is a file of the index. Of a heap file that isn't told the blocks are some number.
pub record Builds (words : List (List ℕ)) (outside : Outside) (asked : Asked) (made : Made) : Type 0 where
  pub asks : Asks words asked
  pub index : IsIndexOver asked.table asked.spec
  pub heap : OnToldFile outside.files (heap_name words)
      (λ heap. HasHeapOutcome asked heap (OfBlocks (Indexed made.rows)))
  pub blocks : OnToldFile outside.files (heap_name words) (λ heap. made.heap_blocks ≡ block_count heap)
  pub claimed : IsLegal made.heap_blocks (workers_of words + 1) made.claims
  pub file : IsIndexFile asked.table asked.spec made.heap_blocks made.rows made.image

-- How a run ends: it refused what words and heap file came to; or it built and delivered the index; or the index and
-- its report got no further than a write fault let them; or the heap file couldn't be read, or memory ran out, before
-- anything was written.
pub data Ends (words : List (List ℕ)) (old new : Outside) (told : Told) (fault : Option Fault) : Type 0 where
  Refused : (outcome : Outcome) → HasOutcome words old.files outcome → fault ≡ fault_of outcome → IsSome fault
      → OnlyReads old new → told ≡ nothing → Ends words old new told fault
  Built : (asked : Asked) (made : Made) → Builds words old asked made → fault ≡ None
      → IsDelivered (delivery_of words asked made) old new → told ≡ told_of made → Ends words old new told fault
  Cut : (asked : Asked) (made : Made) → Builds words old asked made → fault ≡ Some faults.WriteFault
      → IsCutShort (delivery_of words asked made) old new → told ≡ nothing → Ends words old new told fault
  Unread : (asked : Asked) → Asks words asked → fault ≡ Some faults.ReadFault → OnlyReads old new
      → told ≡ nothing → Ends words old new told fault
  WithoutMemory : IsInGrammar words → fault ≡ Some faults.OutOfMemory → OnlyReads old new → told ≡ nothing
      → Ends words old new told fault

-- a read fault or want of memory
abbrev pub IsGivenUp : Option Fault → Type 0
IsGivenUp fault = (fault ≡ Some faults.ReadFault) ⊎ (fault ≡ Some faults.OutOfMemory)

-- What else may be answered where words and heap file came to this: once the words are in order memory may run out,
-- once the statements are the heap may not be read, and once the index is being written a write may fail.
abbrev pub MayAnswer : Outcome → Option Fault → Type 0
MayAnswer (Usage word) fault = ⊥
MayAnswer (Statement refused) fault = fault ≡ Some faults.OutOfMemory
MayAnswer (OfHeap (OfBlocks (Indexed rows))) fault = IsGivenUp fault ⊎ (fault ≡ Some faults.WriteFault)
MayAnswer (OfHeap refused) fault = IsGivenUp fault

-- what a build answers, by what the words and the heap file came to
abbrev pub IsAnswered : Outcome → Option Fault → Type 0
IsAnswered outcome fault = (fault ≡ fault_of outcome) ⊎ MayAnswer outcome fault
