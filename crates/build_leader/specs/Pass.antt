-- What the pass over sorted rows keeps (_bt_load of nbtsort.c).
use Rattle.std.specs.Prelude.{◌≡◌, ⊤, ℕ, IsTrue, List, [], ◌∷◌, ◌++◌, length, map, All}
use Rattle.opclass.specs.declared.spec.IndexSpec.{IndexSpec}
use Rattle.opclass.specs.declared.spec.SortPart.{SortPart}
use Rattle.opclass.specs.declared.types.ColType.{ColType}
use Rattle.shared_tape.specs.declared.stored.Record.{Record}
use Rattle.run_merge.specs.Pass.{AreMerged}
use Rattle.run_merge.specs.Sorted.{IsSortedRecords}
use Rattle.btree_pack.specs.Images.{images_of}
use Rattle.btree_pack.specs.Nodes.{btree_file}
use Rattle.btree_pack.specs.Groups.{KeysPart, Row}
use Rattle.btree_pack.specs.Pass.Run.{AreLeavesOf, RunView}
use Rattle.btree_pack.specs.Pass.Taken.{IsRowOf, row_of}
use Rattle.build_leader.specs.declared.fault.LeadFault.{LeadFault}
use Rattle.build_leader.specs.declared.fault.LeadFault.TheVariants as lead
use Rattle.build_leader.specs.Unique.{Clash, IsFirstClash, NoneClash}

-- a record is a row of an index with columns of these types
abbrev pub IsTypedRow : IndexSpec → List ColType → Record → Type 0
IsTypedRow spec kinds row = IsRowOf kinds (length spec.keys) (row_of row)

-- and so are all of these
abbrev pub AreRowsOf : IndexSpec → List ColType → List Record → Type 0
AreRowsOf spec kinds records = All (IsTypedRow spec kinds) records

-- a unique index has no neighbours that clash
abbrev pub KeepsUnique : IndexSpec → List Record → Type 0
KeepsUnique spec rows = IsTrue spec.unique → NoneClash spec rows

-- Rows on their way into a packer: those that were put, and the one that is held back until it is compared with the
-- next, are the first in order of the whole, and no neighbours among them break the unique rule.
pub record AreComing {P : Type 0} (has : IndexSpec → List ColType → List Row → P → Type 0) (spec : IndexSpec)
    (kinds : List ColType) (order : List SortPart) (whole left : List Record) (packer : P) (held : Record) : Type 0 where
  pub before : List Record
  pub merged : AreMerged order whole (before ++ held ∷ []) left
  pub unique : KeepsUnique spec (before ++ held ∷ [])
  pub put : has spec kinds (map row_of before) packer
  pub rows : AreRowsOf spec kinds (held ∷ left)

-- these records were put in their order, which keeps the unique rule
pub record WerePut {P : Type 0} (has : IndexSpec → List ColType → List Row → P → Type 0) (spec : IndexSpec)
    (kinds : List ColType) (order : List SortPart) (whole : List Record) (packer : P) : Type 0 where
  pub sorted : List Record
  pub in_order : IsSortedRecords order whole sorted
  pub unique : KeepsUnique spec sorted
  pub put : has spec kinds (map row_of sorted) packer

-- leaf tuples are those of these records in their order, which keeps the unique rule
pub record IsWrittenRun (spec : IndexSpec) (kinds : List ColType) (order : List SortPart) (whole : List Record)
    (run : RunView) : Type 0 where
  pub sorted : List Record
  pub in_order : IsSortedRecords order whole sorted
  pub unique : KeepsUnique spec sorted
  pub leaves : AreLeavesOf spec kinds (map row_of sorted) run

-- Runs of leaf tuples are of rows, one behind the other from some on, and rows of one key stand in one run.
abbrev pub HoldLeafRows : IndexSpec → List ColType → List Row → List RunView → List Row → Type 0
HoldLeafRows spec kinds before [] rows = rows ≡ before
HoldLeafRows spec kinds before (run ∷ runs) rows =
    (more : List Row) × AreLeavesOf spec kinds more run × KeysPart before more
    × HoldLeafRows spec kinds (before ++ more) runs rows

-- a file is that of the rows that runs of leaf tuples hold
abbrev pub IsFileOfRuns : IndexSpec → List ColType → List RunView → List ℕ → Type 0
IsFileOfRuns spec kinds runs file =
    (rows : List Row) → HoldLeafRows spec kinds [] runs rows
    → file ≡ btree_file (images_of kinds (length spec.keys)) spec rows

-- a file is that of these records in their order, which keeps the unique rule
pub record IsPackedFile (spec : IndexSpec) (kinds : List ColType) (order : List SortPart) (whole : List Record)
    (file : List ℕ) : Type 0 where
  pub sorted : List Record
  pub in_order : IsSortedRecords order whole sorted
  pub unique : KeepsUnique spec sorted
  pub file_is : file ≡ btree_file (images_of kinds (length spec.keys)) spec (map row_of sorted)

-- why records aren't packed: the first two of them in their order that break the unique rule, or want of memory
abbrev pub IsPackFault : IndexSpec → List SortPart → List Record → LeadFault → Type 0
IsPackFault spec order whole (lead.Row block item cause) = ⊥
IsPackFault spec order whole (lead.Duplicate first second) =
    IsTrue spec.unique × ((sorted : List Record) × IsSortedRecords order whole sorted × IsFirstClash spec sorted first second)
IsPackFault spec order whole (lead.RangeWide range size) = ⊥
IsPackFault spec order whole lead.Memory = ⊤

-- a packer has one row more, whatever was put before
abbrev pub PutsRow : {P : Type 0} → (IndexSpec → List ColType → List Row → P → Type 0) → P → Record → P → Type 0
PutsRow has old row new =
    (spec : IndexSpec) (kinds : List ColType) (rows : List Row)
    → has spec kinds rows old → has spec kinds (rows ++ row_of row ∷ []) new

-- a packer to which rows of an index were put takes any row of it
abbrev pub TakesRowsOf : {P : Type 0} → (IndexSpec → List ColType → List Row → P → Type 0) → (P → Row → Type 0) → Type 0
TakesRowsOf has takes =
    (spec : IndexSpec) (kinds : List ColType) (rows : List Row) (packer : _) (row : Row)
    → has spec kinds rows packer → IsRowOf kinds (length spec.keys) row → takes packer row

-- why a row isn't put: it breaks the unique rule with the next one, or want of memory
abbrev pub IsClash : IndexSpec → Record → Record → LeadFault → Type 0
IsClash spec held next (lead.Row block item cause) = ⊥
IsClash spec held next (lead.Duplicate first second) =
    IsTrue spec.unique × Clash spec held next × (first ≡ held.ptr) × (second ≡ next.ptr)
IsClash spec held next (lead.RangeWide range size) = ⊥
IsClash spec held next lead.Memory = ⊤
