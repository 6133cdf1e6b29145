-- What the words and the heap of a build come to, whoever runs it and whatever fails outside.
use Rattle.std.specs.Prelude.{◌≡◌, ℕ, List, Option, Ok, Err}
use Rattle.pg_files.specs.Outside.{FileMap}
use Rattle.index_stmt.specs.declared.fault.StmtFault.{StmtFault}
use Rattle.build_leader.specs.Blocks.{IsHeapFile}
use Rattle.build_leader.specs.Outcome.{BuildOutcome, HasBuildOutcome}
use Rattle.pg_index.specs.HeapFile.{HasFileFault, OnToldFile}
use Rattle.pg_index.specs.Statements.{asked_of}
use Rattle.pg_index.specs.Words.{IsInGrammar, IsUsageFault, heap_name}
use Rattle.pg_index.specs.declared.heap_file.FileCause.{FileCause}
use Rattle.pg_index.specs.declared.statements.Asked.{Asked}

-- what a heap file comes to: it is at fault as a whole, told at a block, or its blocks come to something
pub data HeapOutcome : Type 0 where
  OfFile : FileCause → ℕ → HeapOutcome
  OfBlocks : BuildOutcome → HeapOutcome

-- what a run comes to: a word at fault, the fault of a statement, or what its heap comes to
pub data Outcome : Type 0 where
  Usage : ℕ → Outcome
  Statement : StmtFault → Outcome
  OfHeap : HeapOutcome → Outcome

abbrev pub HasHeapOutcome : Asked → List ℕ → HeapOutcome → Type 0
HasHeapOutcome asked heap (OfFile cause block) = HasFileFault heap cause block
HasHeapOutcome asked heap (OfBlocks outcome) = IsHeapFile heap × HasBuildOutcome asked.table asked.spec heap outcome

-- the words are in order, and ask for this
abbrev pub Asks : List (List ℕ) → Asked → Type 0
Asks words asked = IsInGrammar words × (asked_of words ≡ Ok asked)

-- What the words and the heap file come to, in the order of refusals: the words, the statements, the heap.
-- Of a heap file that isn't told nothing is said.
abbrev pub HasOutcome : List (List ℕ) → Option FileMap → Outcome → Type 0
HasOutcome words told (Usage fault) = IsUsageFault words fault
HasOutcome words told (Statement fault) = IsInGrammar words × (asked_of words ≡ Err fault)
HasOutcome words told (OfHeap outcome) =
    (asked : Asked) × Asks words asked
    × OnToldFile told (heap_name words) (λ heap. HasHeapOutcome asked heap outcome)
