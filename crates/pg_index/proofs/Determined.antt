-- A heap file comes to one thing, and so do words and files that are told.
use Rattle.std.proofs.Common.{◌≡◌, ℕ, List, Option, Some, None, Result, Ok, Err, sym, ap, subst, ◌∙◌, arith, inl, inr}
use Rattle.std.proofs.lemmas.Bool.{cases_order}
use Rattle.index_stmt.specs.declared.fault.StmtFault.{StmtFault}
use Rattle.build_leader.proofs.Determined.{same_outcome}
use Rattle.build_leader.specs.Blocks.{IsHeapFile}
use Rattle.pg_index.specs.HeapFile.{HasFileFault, OnFile}
use Rattle.pg_index.specs.Laws.{OutcomeIsDetermined}
use Rattle.pg_index.specs.Outcome.{Asks, HasHeapOutcome, HeapOutcome, OfBlocks, OfFile, OfHeap, Statement, Usage}
use Rattle.pg_index.specs.Statements.{asked_of}
use Rattle.pg_index.specs.Words.{IsUsageFault, heap_name}
use Rattle.pg_index.specs.declared.heap_file.FileCause.{FileCause}
use Rattle.pg_index.specs.declared.heap_file.FileCause.TheVariants.{NotWhole, TooLong}
use Rattle.pg_index.specs.declared.statements.Asked.{Asked}

-- a file of whole blocks has no fault as a file
pub no_file_fault : (heap : List ℕ) (of : FileCause) (block : ℕ) → IsHeapFile heap → HasFileFault heap of block → ⊥
no_file_fault heap TooLong block whole fault = omega (arith, whole.0, fault.0)
no_file_fault heap NotWhole block whole fault = fault.1 whole.1

-- the fault of a file as a whole is one
same_file_fault : (heap : List ℕ) (of of' : FileCause) (b b' : ℕ) → HasFileFault heap of b → HasFileFault heap of' b'
    → OfFile of b ≡ OfFile of' b'
same_file_fault heap TooLong TooLong b b' x y = ap (OfFile TooLong) (x.1 ∙ sym y.1)
same_file_fault heap NotWhole NotWhole b b' x y = ap (OfFile NotWhole) (x.2 ∙ sym y.2)
same_file_fault heap TooLong NotWhole b b' x y = absurd (omega (arith, x.0, y.0))
same_file_fault heap NotWhole TooLong b b' x y = absurd (omega (arith, x.0, y.0))

-- a heap file comes to one thing
pub same_heap_outcome : (asked : Asked) (heap : List ℕ) (a b : HeapOutcome) → HasHeapOutcome asked heap a
    → HasHeapOutcome asked heap b → a ≡ b
same_heap_outcome asked heap (OfFile of b) (OfFile of' b') x y = same_file_fault heap of of' b b' x y
same_heap_outcome asked heap (OfFile of b) (OfBlocks outcome) x y = absurd (no_file_fault heap of b y.0 x)
same_heap_outcome asked heap (OfBlocks outcome) (OfFile of b) x y = absurd (no_file_fault heap of b x.0 y)
same_heap_outcome asked heap (OfBlocks a) (OfBlocks b) x y = ap OfBlocks (same_outcome asked.table asked.spec heap a b x.1 y.1)

-- the least word at fault is one
same_word : (words : List (List ℕ)) (a b : ℕ) → IsUsageFault words a → IsUsageFault words b → a ≡ b
same_word words a b x y = elim (cases_order a b) [
  | inl same ↦ same
  | inr differ ↦ elim differ [
    | inl less ↦ absurd (y.1 a less x.0)
    | inr more ↦ absurd (x.1 b more y.0)
  ]
]

-- what a reading comes to is a value or a fault, and one of them
abbrev value_is : Result Asked StmtFault → Asked → Asked
value_is (Ok asked) other = asked
value_is (Err fault) other = other

pub same_value : (read : Result Asked StmtFault) (a b : Asked) → read ≡ Ok a → read ≡ Ok b → a ≡ b
same_value read a b x y = ap (λ (r : Result Asked StmtFault). value_is r a) (sym x ∙ y)

abbrev fault_is : Result Asked StmtFault → StmtFault → StmtFault
fault_is (Ok asked) other = other
fault_is (Err fault) other = fault

same_fault : (read : Result Asked StmtFault) (a b : StmtFault) → read ≡ Err a → read ≡ Err b → a ≡ b
same_fault read a b x y = ap (λ (r : Result Asked StmtFault). fault_is r a) (sym x ∙ y)

abbrev is_value : Result Asked StmtFault → Type 0
is_value (Ok asked) = Unit {0}
is_value (Err fault) = ⊥

pub not_both : (read : Result Asked StmtFault) (a : Asked) (b : StmtFault) → read ≡ Ok a → read ≡ Err b → ⊥
not_both read a b x y = subst is_value (sym x ∙ y) tt

-- what is asked for is one
pub same_asked : (words : List (List ℕ)) (a b : Asked) → Asks words a → Asks words b → a ≡ b
same_asked words a b x y = same_value (asked_of words) a b x.1 y.1

-- the outcome of a file is one
same_of_file : (file : Option (List ℕ)) (one two : Asked) (a b : HeapOutcome) → one ≡ two
    → OnFile file (λ heap. HasHeapOutcome one heap a) → OnFile file (λ heap. HasHeapOutcome two heap b) → a ≡ b
same_of_file None one two a b is x y = absurd x
same_of_file (Some heap) one two a b is x y =
    let P : Asked → Type 0 = λ asked. HasHeapOutcome asked heap a in
    same_heap_outcome two heap a b (subst P is x) y

-- what words and heap file come to is one
pub same_of_run : OutcomeIsDetermined
same_of_run words told (Usage a) (Usage b) x y = ap Usage (same_word words a b x y)
same_of_run words told (Usage a) (Statement b) x y = absurd (y.0 a x.0)
same_of_run words told (Usage a) (OfHeap b) x y = absurd (y.1.0 a x.0)
same_of_run words told (Statement a) (Usage b) x y = absurd (x.0 b y.0)
same_of_run words told (Statement a) (Statement b) x y = ap Statement (same_fault (asked_of words) a b x.1 y.1)
same_of_run words told (Statement a) (OfHeap b) x y = absurd (not_both (asked_of words) y.0 a y.1.1 x.1)
same_of_run words told (OfHeap a) (Usage b) x y = absurd (x.1.0 b y.0)
same_of_run words told (OfHeap a) (Statement b) x y = absurd (not_both (asked_of words) x.0 b x.1.1 y.1)
same_of_run words told (OfHeap a) (OfHeap b) x y =
    ap OfHeap (same_of_file (told (heap_name words)) x.0 y.0 a b (same_asked words x.0 y.0 x.1 y.1) x.2 y.2)
