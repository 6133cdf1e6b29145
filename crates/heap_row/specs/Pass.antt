-- What the passes keep on their way.
use Rattle.std.specs.Prelude.{◌≡◌, ℕ, ◌+◌, ◌*◌, ◌^◌, ◌<◌, ◌≤◌, List, [], ◌∷◌, length, drop, Option, Some, None, Result, Ok, Err, ⊤}
use Rattle.opclass.specs.declared.table.Column.{Column}
use Rattle.opclass.specs.declared.types.Form.{Form}
use Rattle.opclass.specs.declared.types.Form.TheVariants.{Truth, Signed, Unsigned}
use Rattle.opclass.specs.Types.{facts_of}
use Rattle.heap_row.specs.declared.array.Shape.{Shape}
use Rattle.heap_row.specs.declared.attribute.Attribute.{Attribute}
use Rattle.heap_row.specs.declared.fault.ReadFault.{ReadFault}
use Rattle.heap_row.specs.declared.fault.ReadFault.TheVariants as read
use Rattle.heap_row.specs.declared.fault.RowCause.{RowCause}
use Rattle.heap_row.specs.declared.fault.RowFault.{RowFault}
use Rattle.heap_row.specs.declared.fault.RowFault.TheVariants.{Value, Memory}
use Rattle.heap_row.specs.declared.walk.Walked.{Walked}
use Rattle.heap_row.specs.Array.{dims_place, most_dimensions, most_elements}
use Rattle.heap_row.specs.Attribute.{end_of}
use Rattle.heap_row.specs.Fault.{number_of_row_cause}
use Rattle.heap_row.specs.Tuple.{HeapTuple}
use Rattle.heap_row.specs.Varlena.{stored_at}

-- a fault by its cause's number
abbrev pub told : ReadFault → RowFault
told (read.Cause cause) = Value (number_of_row_cause cause)
told read.Memory = Memory

-- a call that answers this way does as the reading, unless memory ran out
abbrev pub Fails : {Y : Type 0} → ReadFault → Result Y RowCause → Type 0
Fails (read.Cause cause) reading = reading ≡ Err cause
Fails read.Memory reading = ⊤

abbrev pub Gives : {X Y : Type 0} → (X → Y) → Result X ReadFault → Result Y RowCause → Type 0
Gives view (Ok value) reading = reading ≡ Ok (view value)
Gives view (Err fault) reading = Fails fault reading

-- the same of a call that leaves what it read in a place that it was given
abbrev pub Fills : {X Y : Type 0} → Y → Result X ReadFault → Result Y RowCause → Type 0
Fills value (Ok done) reading = reading ≡ Ok value
Fills value (Err fault) reading = Fails fault reading

-- so many bytes are as wide as a number of this form is
abbrev pub IsWidthOf : Form → ℕ → Type 0
IsWidthOf Truth size = size ≡ 1
IsWidthOf Signed size = (1 ≤ size) × (size ≤ 8)
IsWidthOf Unsigned size = size ≡ 4
IsWidthOf form size = ⊤

-- so many columns were walked, and their data end there
pub record IsWalked (tuple : HeapTuple) (columns : List Column) (walked : Walked) : Type 0 where
  pub stands : end_of tuple columns walked.columns ≡ Ok walked.end
  pub inside : walked.end ≤ length tuple.body

-- the columns with these numbers stand behind so many, in ascending order, and the last is one of the table
abbrev pub AreAhead : List Column → ℕ → List ℕ → Type 0
AreAhead columns before [] = ⊤
AreAhead columns before (number ∷ numbers) =
    (before < number) × (number ≤ length columns) × AreAhead columns number numbers

-- the last of these numbers, or the one before them where there is none
abbrev pub last_of : ℕ → List ℕ → ℕ
last_of before [] = before
last_of before (number ∷ numbers) = last_of number numbers

-- an attribute is stored in the tuple as its column's type says
abbrev pub IsStoredIn : HeapTuple → Column → Option Attribute → Type 0
IsStoredIn tuple column None = ⊤
IsStoredIn tuple column (Some attribute) =
    stored_at (facts_of column.kind).width (drop attribute.start tuple.body) ≡ Ok attribute.stored

-- where the dimensions and the lower bounds of an array end at most
abbrev pub most_dims_end : ℕ
most_dims_end = dims_place + 8 * most_dimensions

-- what a pass over an array's elements relies on: they are few enough to be counted, and none begins far behind
pub record IsBounded (shape : Shape) : Type 0 where
  pub count : shape.count ≤ most_elements
  pub first : shape.first < 2 ^ 32
