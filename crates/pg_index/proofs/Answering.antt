-- How a run ends tells what it answers to whatever the words and the heap file come to, since they come to one thing.
use Rattle.std.proofs.Common.{◌≡◌, ℕ, List, Option, Some, subst, inl, inr}
use Rattle.pg_files.specs.Outside.{FileMap, Outside}
use Rattle.build_leader.specs.Outcome.{Duplicate, Faulty, Indexed, RangeWide}
use Rattle.pg_index.proofs.Determined.{not_both, same_of_run}
use Rattle.pg_index.specs.Outcome.{Asks, HasOutcome, OfBlocks, OfFile, OfHeap, Outcome, Statement, Usage}
use Rattle.pg_index.specs.Run.{Built, Builds, Cut, Ends, IsAnswered, Made, Refused, Told, Unread, WithoutMemory}
use Rattle.pg_index.specs.Statements.{asked_of}
use Rattle.pg_index.specs.Words.{IsInGrammar}
use Rattle.pg_index.specs.declared.fault.Fault.{Fault}
use Rattle.pg_index.specs.declared.statements.Asked.{Asked}

-- want of memory answers to whatever comes behind the words
without_memory : (words : List (List ℕ)) (told : FileMap) (outcome : Outcome) (fault : Option Fault) → IsInGrammar words
    → HasOutcome words (Some told) outcome → fault ≡ Some Fault.OutOfMemory → IsAnswered outcome fault
without_memory words told (Usage number) fault grammar has is = absurd (grammar number has.0)
without_memory words told (Statement refused) fault grammar has is = inr is
without_memory words told (OfHeap (OfFile cause block)) fault grammar has is = inr (inr is)
without_memory words told (OfHeap (OfBlocks (Faulty block item cause))) fault grammar has is = inr (inr is)
without_memory words told (OfHeap (OfBlocks (Duplicate first second))) fault grammar has is = inr (inr is)
without_memory words told (OfHeap (OfBlocks (RangeWide range size))) fault grammar has is = inr (inr is)
without_memory words told (OfHeap (OfBlocks (Indexed rows))) fault grammar has is = inr (inl (inr is))

-- a read fault answers to whatever the heap comes to
unread : (words : List (List ℕ)) (told : FileMap) (asked : Asked) (outcome : Outcome) (fault : Option Fault) → Asks words asked
    → HasOutcome words (Some told) outcome → fault ≡ Some Fault.ReadFault → IsAnswered outcome fault
unread words told asked (Usage number) fault asks has is = absurd (asks.0 number has.0)
unread words told asked (Statement refused) fault asks has is = absurd (not_both (asked_of words) asked refused asks.1 has.1)
unread words told asked (OfHeap (OfFile cause block)) fault asks has is = inr (inl is)
unread words told asked (OfHeap (OfBlocks (Faulty block item cause))) fault asks has is = inr (inl is)
unread words told asked (OfHeap (OfBlocks (Duplicate first second))) fault asks has is = inr (inl is)
unread words told asked (OfHeap (OfBlocks (RangeWide range size))) fault asks has is = inr (inl is)
unread words told asked (OfHeap (OfBlocks (Indexed rows))) fault asks has is = inr (inl (inl is))

-- what answers to the outcome that was found answers to any
answers_any : (words : List (List ℕ)) (files : Option FileMap) (told : FileMap) (found outcome : Outcome) (fault : Option Fault) → files ≡ Some told
    → HasOutcome words files found → HasOutcome words (Some told) outcome → IsAnswered found fault → IsAnswered outcome fault
answers_any words files told found outcome fault is there has answered =
    let P : Option FileMap → Type 0 = λ m. HasOutcome words m found in
    let Q : Outcome → Type 0 = λ o. IsAnswered o fault in
    subst Q (same_of_run words told found outcome (subst P is there) has) answered

-- an index that is built is what words and heap file come to
pub built_outcome : (words : List (List ℕ)) (outside : Outside) (asked : Asked) (made : Made)
    → Builds words outside asked made → HasOutcome words outside.files (OfHeap (OfBlocks (Indexed made.rows)))
built_outcome words outside asked made builds = (asked, builds.asks, builds.heap)

-- how a run ends is its answer
pub answers : (words : List (List ℕ)) (old new : Outside) (told : Told) (fault : Option Fault) → Ends words old new told fault → (files : FileMap) (outcome : Outcome)
    → old.files ≡ Some files → HasOutcome words (Some files) outcome → IsAnswered outcome fault
answers words old new told fault (Refused found there answered some only none) files outcome is has =
    answers_any words old.files files found outcome fault is there has (inl answered)
answers words old new told fault (Built asked made builds none delivered tells) files outcome is has =
    answers_any words old.files files (OfHeap (OfBlocks (Indexed made.rows))) outcome fault is (built_outcome words old asked made builds) has (inl none)
answers words old new told fault (Cut asked made builds answered cut none) files outcome is has =
    answers_any words old.files files (OfHeap (OfBlocks (Indexed made.rows))) outcome fault is (built_outcome words old asked made builds) has (inr (inr answered))
answers words old new told fault (Unread asked asks answered only none) files outcome is has = unread words files asked outcome fault asks has answered
answers words old new told fault (WithoutMemory grammar answered only none) files outcome is has = without_memory words files outcome fault grammar has answered
