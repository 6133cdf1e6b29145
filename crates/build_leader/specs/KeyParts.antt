-- The parts of records between cuts of their keys, each of which becomes something on a thread of its own.
use Rattle.std.specs.Prelude.{◌≡◌, ◌≢◌, ◌⊎◌, ℕ, zero, suc, ◌<◌, ◌≤◌, IsTrue, List, [], ◌++◌, length, Some, slice_get}
use Rattle.std.specs.declared.cmp.Ordering.TheVariants.{Equal}
use Rattle.opclass.specs.declared.spec.SortPart.{SortPart}
use Rattle.opclass.specs.Order.{key_cmp}
use Rattle.shared_tape.specs.declared.stored.Record.{Record}
use Rattle.shared_tape.specs.Stored.{IsStorable}
use Rattle.run_merge.specs.Cutting.{is_in_part, part_of}
use Rattle.run_merge.specs.Sorted.{IsSortedRecords}
use Rattle.build_leader.specs.declared.fault.LeadFault.{LeadFault}
use Rattle.build_leader.specs.declared.fault.LeadFault.TheVariants as lead

-- each of the first parts, and so many, has become one of these
pub record AreMade {M : Type 0} (makes : List Record → M → Type 0) (order : List SortPart) (cuts : List (List ℕ))
    (records : List Record) (count : ℕ) (made : List M) : Type 0 where
  pub count_is : length made ≡ count
  pub each : (part : ℕ) (one : M) → slice_get made part ≡ Some one → makes (part_of order cuts part records) one

-- one of the first parts is refused, and each before it has become something
pub record IsRefusedAt {M : Type 0} (makes : List Record → M → Type 0) (refuses : List Record → LeadFault → Type 0)
    (order : List SortPart) (cuts : List (List ℕ)) (records : List Record) (count : ℕ) (fault : LeadFault) : Type 0 where
  pub part : ℕ
  pub within : part < count
  pub refused : refuses (part_of order cuts part records) fault
  pub before : (lower : ℕ) → lower < part → (one : M) × makes (part_of order cuts lower records) one

-- why the first parts haven't all become something: one of them is refused, or memory ran out
abbrev pub IsRefused : {M : Type 0} → (List Record → M → Type 0) → (List Record → LeadFault → Type 0) → List SortPart
    → List (List ℕ) → List Record → ℕ → LeadFault → Type 0
IsRefused makes refuses order cuts records count fault =
    (fault ≡ lead.Memory) ⊎ IsRefusedAt makes refuses order cuts records count fault

-- the records of the first parts, and so many, each part's in their order and behind those of the part before
abbrev pub AreOfParts : List SortPart → List (List ℕ) → List Record → ℕ → List Record → Type 0
AreOfParts order cuts records zero rows = rows ≡ []
AreOfParts order cuts records (suc count) rows =
    (before : List Record) × ((last : List Record) × (AreOfParts order cuts records count before
    × IsSortedRecords order (part_of order cuts count records) last × (rows ≡ before ++ last)))

-- no two of the parts between these cuts can have records of equal keys
abbrev pub SharesNoKeys : List SortPart → List (List ℕ) → Type 0
SharesNoKeys order cuts =
    (a b : Record) → IsStorable order a → IsStorable order b → (i j : ℕ) → i ≤ length cuts → j ≤ length cuts → i ≢ j
    → IsTrue (is_in_part order cuts i a) → IsTrue (is_in_part order cuts j b) → key_cmp order a.keys b.keys ≢ Equal
