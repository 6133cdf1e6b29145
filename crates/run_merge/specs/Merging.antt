-- A merge that is under way, and the records that it gives (mergeonerun of tuplesort.c).
use Rattle.std.specs.Prelude.{◌≡◌, Bool, false, true, Option, Some, None, List, [], ◌∷◌, All, IsTrue}
use Rattle.std.specs.Ordering.{is_lt}
use Rattle.std.specs.List.Sorted.{IsPermutation}
use Rattle.opclass.specs.declared.spec.SortPart.{SortPart}
use Rattle.shared_tape.specs.declared.stored.Record.{Record}
use Rattle.shared_tape.specs.Stored.{record_cmp}
use Rattle.shared_tape.specs.Runs.{RunView, records_of, IsAscending}
use Rattle.run_merge.specs.Sorted.{HaveOrder}

-- A merge: its order, the records that are left to give, and whether they stand in order already, so that they are
-- given as they stand.
pub record Merging : Type 0 where
  pub order : List SortPart
  pub left : List Record
  pub in_order : Bool

-- the first record isn't below the second
abbrev pub IsNotBelow : List SortPart → Record → Record → Type 0
IsNotBelow order a b = is_lt (record_cmp order a b) ≡ false

-- none of these is below a record
abbrev pub IsFirstOf : List SortPart → Record → List Record → Type 0
IsFirstOf order row records = All (λ other. IsNotBelow order other row) records

-- a merge gives one of the records that are left, none of which is below it, and the others stay
pub record GivesOne (old : Merging) (row : Record) (new : Merging) : Type 0 where
  pub order : new.order ≡ old.order
  pub taken : IsPermutation old.left (row ∷ new.left)
  pub first : IsFirstOf old.order row old.left
  pub in_order : new.in_order ≡ old.in_order
  pub in_place : IsTrue old.in_order → old.left ≡ row ∷ new.left

-- what a merge gives at a time: one of the records, or none, exactly where none is left
abbrev pub Gives : Merging → Merging → Option Record → Type 0
Gives old new None = (old.left ≡ []) × (new ≡ old)
Gives old new (Some row) = GivesOne old row new

-- what a merge gives into a record, where true says that there was one
abbrev pub GivesInto : Merging → Merging → Bool → Record → Type 0
GivesInto old new false row = Gives old new None
GivesInto old new true row = Gives old new (Some row)

-- a merge gives these records, one after the other, and then has none
abbrev pub GivesAll : Merging → List Record → Type 0
GivesAll merge [] = merge.left ≡ []
GivesAll merge (row ∷ rows) = (next : Merging) × GivesOne merge row next × GivesAll next rows

-- the order of the first of several runs
abbrev pub order_of : List RunView → List SortPart
order_of [] = []
order_of (run ∷ runs) = run.order

-- runs of one order whose records ascend from the first run's first to the last run's last
pub record StandInOrder (runs : List RunView) : Type 0 where
  pub one_order : HaveOrder (order_of runs) runs
  pub ascending : IsAscending (order_of runs) (records_of runs)
