-- The promise of a build, for every heap, table and index statement, count of workers and order of their claims: each
-- block is claimed once, the file written is that of the heap's rows, byte for byte for a B-tree and a BRIN index and as
-- the same map from entries to row pointers for a GIN index, and a unique build is refused exactly where two live rows
-- have equal keys under its null rule, with the first neighbours in the order of the index that have.
use Rattle.std.specs.Prelude.{◌≡◌, ◌⊎◌, ◌+◌, ◌<◌, ℕ, IsTrue, List, Option, Some, None, AllPairs, slice_get}
use Rattle.pg_bytes.specs.Blocks.{block_count}
use Rattle.pg_bytes.specs.declared.row_ptr.RowPtr.{RowPtr}
use Rattle.pg_files.specs.Outside.{Outside}
use Rattle.block_claim.specs.Legal.{IsLegal}
use Rattle.shared_tape.specs.declared.stored.Record.{Record}
use Rattle.build_leader.specs.Blocks.{IsHeapFile}
use Rattle.build_leader.specs.HeapRows.{HasSoundBlocks}
use Rattle.build_leader.specs.Outcome.{AreSortedRows, AreTakenRows, IsIndexFile}
use Rattle.build_leader.specs.Unique.{Clash, IsFirstClash}
use Rattle.pg_index.specs.IndexFile.{Holds}
use Rattle.pg_index.specs.Run.{IsGivenUp, Told}
use Rattle.pg_index.specs.Words.{index_name, workers_of}
use Rattle.pg_index.specs.declared.fault.Fault.{Fault}
use Rattle.pg_index.specs.declared.fault.Fault.TheVariants.{Duplicate}
use Rattle.pg_index.specs.declared.statements.Asked.{Asked}

-- two rows of an index, at different places of its order, break its unique rule
pub record SomeClash (asked : Asked) (heap : List ℕ) : Type 0 where
  pub sorted : List Record
  pub rows : AreSortedRows asked.table asked.spec heap sorted
  pub one : ℕ
  pub two : ℕ
  pub a : Record
  pub b : Record
  pub apart : one < two
  pub first : slice_get sorted one ≡ Some a
  pub second : slice_get sorted two ≡ Some b
  pub clash : Clash asked.spec a b

-- A unique index that its rows don't allow: the heap has whole blocks, not too many, and no fault, and two rows break
-- the rule.
pub record BreaksItsRule (asked : Asked) (heap : List ℕ) : Type 0 where
  pub unique : IsTrue asked.spec.unique
  pub file : IsHeapFile heap
  pub sound : HasSoundBlocks asked.table asked.spec heap
  pub clash : SomeClash asked heap

-- the first neighbours in the order of an index that break its unique rule, by their row pointers
pub record AreFirstToClash (asked : Asked) (heap : List ℕ) (first second : RowPtr) : Type 0 where
  pub sorted : List Record
  pub rows : AreSortedRows asked.table asked.spec heap sorted
  pub clash : IsFirstClash asked.spec sorted first second

-- the answer is these neighbours
pub record IsDuplicate (asked : Asked) (heap : List ℕ) (fault : Option Fault) : Type 0 where
  pub first : RowPtr
  pub second : RowPtr
  pub answered : fault ≡ Some (Duplicate first second)
  pub are : AreFirstToClash asked heap first second

-- What is built of a heap: each of its blocks was claimed once, the index file is that of its rows, whatever workers there
-- were, and of a unique index no two rows break the rule. The file of a B-tree and of a BRIN index is one, and that of a
-- GIN index is read as the map of the rows.
pub record IsBuiltOf (words : List (List ℕ)) (asked : Asked) (heap : List ℕ) (old new : Outside) (told : Told) : Type 0 where
  pub claims : IsLegal (block_count heap) (workers_of words + 1) told.claims
  pub rows : List Record
  pub of_heap : AreTakenRows asked.spec.method asked.table asked.spec heap rows
  pub image : List ℕ
  pub index : IsIndexFile asked.table asked.spec (block_count heap) rows image
  pub file : Holds (index_name words) image old new
  pub unique : IsTrue asked.spec.unique → AllPairs (λ a b. Clash asked.spec a b → ⊥) rows

-- What holds of every run over this heap. A unique index is refused exactly where its rows break the rule, unless the
-- heap can't be read or memory runs out.
pub record Headline (words : List (List ℕ)) (asked : Asked) (heap : List ℕ) (old new : Outside) (told : Told)
    (fault : Option Fault) : Type 0 where
  pub built : fault ≡ None → IsBuiltOf words asked heap old new told
  pub refused : (first second : RowPtr) → fault ≡ Some (Duplicate first second)
      → BreaksItsRule asked heap × AreFirstToClash asked heap first second
  pub breaking : BreaksItsRule asked heap → IsDuplicate asked heap fault ⊎ IsGivenUp fault
