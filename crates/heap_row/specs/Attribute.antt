-- Where the attributes of a tuple stand, and their values (heap_deform_tuple of heaptuple.c, tupmacs.h). Places are
-- counted from the first byte of the tuple's data. A column is told by how many columns stand before it, but in a list
-- of needed columns by its number, from 1.
use Rattle.std.specs.Prelude.{ℕ, zero, suc, ◌+◌, ◌-◌, ◌==◌, ◌≤◌, All, nat_le, if◌then◌else◌, List, [], ◌∷◌, length, drop, slice_get, slice_index, Option, Some, None, Result, Ok, Err}
use Rattle.std.specs.List.Sorted.{IsStrictlyIncreasing}
use Rattle.pg_bytes.specs.Numbers.{rounded_up}
use Rattle.opclass.specs.declared.table.Column.{Column}
use Rattle.opclass.specs.declared.types.ColType.{ColType}
use Rattle.opclass.specs.declared.types.Width.{Width}
use Rattle.opclass.specs.declared.types.Width.TheVariants.{Fixed, Variable}
use Rattle.opclass.specs.declared.value.KeyVal.{KeyVal}
use Rattle.opclass.specs.declared.value.KeyVal.TheVariants.{Nil}
use Rattle.opclass.specs.Types.{facts_of}
use Rattle.heap_row.specs.declared.attribute.Attribute.{Attribute}
use Rattle.heap_row.specs.declared.fault.RowCause.{RowCause}
use Rattle.heap_row.specs.declared.fault.RowCause.TheVariants.{PastEnd}
use Rattle.heap_row.specs.Datum.{datum_of}
use Rattle.heap_row.specs.Fault.{◌>>=◌}
use Rattle.heap_row.specs.Tuple.{HeapTuple, is_null}
use Rattle.heap_row.specs.Varlena.{stored_at}

-- att_align_pointer: where an attribute begins that stands at a place or behind it. A value with a header may stand
-- unaligned: a byte that isn't zero is its header, and a zero is padding or the header of an aligned one.
abbrev pub start_at : Width → ℕ → List ℕ → ℕ → Result ℕ RowCause
start_at (Fixed width) alignment body place = Ok (rounded_up alignment place)
start_at Variable alignment body place =
    if nat_le (length body) place then Err PastEnd else
    if slice_index body place == 0 then Ok (rounded_up alignment place) else
    Ok place

-- an attribute of this type that stands at a place or behind it: where it begins, and how it is stored
abbrev pub attribute_at : ColType → List ℕ → ℕ → Result Attribute RowCause
attribute_at kind body place = do
  start ← start_at (facts_of kind).width (facts_of kind).alignment body place
  stored ← stored_at (facts_of kind).width (drop start body)
  Ok (record { start = start; stored = stored })

-- att_addlength_pointer: where an attribute ends that stands behind a place, and a null takes no bytes
unfoldable pub end_behind : ℕ → Option Attribute → ℕ
end_behind place None = place
end_behind place (Some attribute) = attribute.start + attribute.stored.total

-- the attribute of a column, behind the end of those before it: a null has none
unfoldable pub attribute_behind : HeapTuple → Option Column → ℕ → ℕ → Result (Option Attribute) RowCause
attribute_behind tuple None before place = Ok None
attribute_behind tuple (Some column) before place =
    if is_null tuple before then Ok None else
    attribute_at column.kind tuple.body place >>= λ attribute. Ok (Some attribute)

-- where the data of the first so many columns end
abbrev pub end_of : HeapTuple → List Column → ℕ → Result ℕ RowCause
end_of tuple columns zero = Ok 0
end_of tuple columns (suc before) = do
  place ← end_of tuple columns before
  attribute ← attribute_behind tuple (slice_get columns before) before place
  Ok (end_behind place attribute)

-- the attribute of the column behind so many others
abbrev pub attribute_of : HeapTuple → List Column → ℕ → Result (Option Attribute) RowCause
attribute_of tuple columns before =
    end_of tuple columns before >>= attribute_behind tuple (slice_get columns before) before

-- the value of an attribute
unfoldable pub value_at : HeapTuple → Option Column → Option Attribute → Result KeyVal RowCause
value_at tuple None attribute = Ok Nil
value_at tuple (Some column) None = Ok Nil
value_at tuple (Some column) (Some attribute) =
    datum_of column.kind attribute.stored (drop attribute.start tuple.body)

-- the value of the column behind so many others
abbrev pub value_of : HeapTuple → List Column → ℕ → Result KeyVal RowCause
value_of tuple columns before =
    attribute_of tuple columns before >>= value_at tuple (slice_get columns before)

-- The values of the columns with these numbers, or the first cause that one of them comes to. A column that isn't needed
-- and can't be walked is a cause of the next needed one, so in ascending order this is the least cause of the first
-- faulty column.
abbrev pub values_of : HeapTuple → List Column → List ℕ → Result (List KeyVal) RowCause
values_of tuple columns [] = Ok []
values_of tuple columns (number ∷ numbers) = do
  value ← value_of tuple columns (number - 1)
  values ← values_of tuple columns numbers
  Ok (value ∷ values)

-- these are numbers of columns, in ascending order
pub record AreColumnsOf (columns : List Column) (numbers : List ℕ) : Type 0 where
  pub ascending : IsStrictlyIncreasing numbers
  pub first : All (λ number. 1 ≤ number) numbers
  pub last : All (λ number. number ≤ length columns) numbers
