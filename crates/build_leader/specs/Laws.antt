-- What follows from the definitions alone.
use Rattle.std.specs.Prelude.{◌≡◌, ◌↔◌, ◌<◌, ℕ, List, [], ◌∷◌, ◌++◌, AllPairs}
use Rattle.std.specs.List.{range_with_len}
use Rattle.std.specs.List.Sorted.{IsPermutation}
use Rattle.pg_bytes.specs.Blocks.{block_count}
use Rattle.opclass.specs.declared.spec.IndexSpec.{IndexSpec}
use Rattle.opclass.specs.declared.table.Table.{Table}
use Rattle.block_claim.specs.declared.claim.Claim.{Claim}
use Rattle.block_claim.specs.Legal.{IsLegal}
use Rattle.shared_tape.specs.declared.stored.Record.{Record}
use Rattle.build_leader.specs.Claimed.{AreClaimedRows}
use Rattle.build_leader.specs.HeapRows.{AreHeapRows, HasSoundBlocks}
use Rattle.build_leader.specs.Outcome.{AreSortedRows, BuildOutcome, HasBuildOutcome}
use Rattle.build_leader.specs.Unique.{Clash, NoneClash}

-- a heap has one list of rows of an index at most
abbrev pub HeapRowsAreDetermined : Type 0
HeapRowsAreDetermined =
    (table : Table) (spec : IndexSpec) (heap : List ℕ) (a b : List Record)
    → AreHeapRows table spec heap a → AreHeapRows table spec heap b → a ≡ b

-- what its blocks come to is one thing at most: one fault, or one pair of rows, or the rows of one index
abbrev pub BuildOutcomeIsDetermined : Type 0
BuildOutcomeIsDetermined =
    (table : Table) (spec : IndexSpec) (heap : List ℕ) (a b : BuildOutcome)
    → HasBuildOutcome table spec heap a → HasBuildOutcome table spec heap b → a ≡ b

-- neighbours of sorted rows break the unique rule exactly where any two of them do
abbrev pub NeighboursTellOfClashes : Type 0
NeighboursTellOfClashes =
    (table : Table) (spec : IndexSpec) (heap : List ℕ) (sorted : List Record)
    → HasSoundBlocks table spec heap → AreSortedRows table spec heap sorted
    → NoneClash spec sorted ↔ AllPairs (λ a b. Clash spec a b → ⊥) sorted

-- the rows of several workers, worker by worker
abbrev pub AreRowsOfWorkers : Table → IndexSpec → List ℕ → List Claim → List ℕ → List Record → Type 0
AreRowsOfWorkers table spec heap claims [] rows = rows ≡ []
AreRowsOfWorkers table spec heap claims (worker ∷ workers) rows =
    (here : List Record) × ((others : List Record) × (rows ≡ here ++ others)
    × AreClaimedRows table spec heap claims worker here × AreRowsOfWorkers table spec heap claims workers others)

-- legal claims share out the rows of a heap: what all workers have together is each of them once
abbrev pub ClaimsShareTheRows : Type 0
ClaimsShareTheRows =
    (table : Table) (spec : IndexSpec) (heap : List ℕ) (seats : ℕ) (claims : List Claim) (rows shared : List Record)
    → 0 < seats → IsLegal (block_count heap) seats claims → AreHeapRows table spec heap rows
    → AreRowsOfWorkers table spec heap claims (range_with_len 0 seats) shared → IsPermutation rows shared
