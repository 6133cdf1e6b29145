-- What holds of the records of entries, whatever the rows are.
use Rattle.std.specs.Prelude.{◌^◌, ◌<◌, ⊤, All, length}
use Rattle.pg_bytes.specs.declared.row_ptr.RowPtr.{RowPtr}
use Rattle.opclass.specs.declared.types.ColType.{ColType}
use Rattle.opclass.specs.declared.value.Elem.{Elem}
use Rattle.opclass.specs.declared.value.Elem.TheVariants as elem
use Rattle.opclass.specs.declared.value.KeyVal.{KeyVal}
use Rattle.opclass.specs.declared.value.KeyVal.TheVariants.{Items}
use Rattle.opclass.specs.Values.{IsValueOf}
use Rattle.shared_tape.specs.Stored.{IsPointer}
use Rattle.spool.specs.Gathers.{AreStorableEntries}

-- an element has fewer bytes than a value of a variable width may have (varatt.h)
abbrev pub IsShort : Elem → Type 0
IsShort elem.Null = ⊤
IsShort (elem.Num number) = ⊤
IsShort (elem.Raw bytes) = length bytes < 2 ^ 30

-- so has each element of a value that is an array
abbrev pub HasShortElements : KeyVal → Type 0
HasShortElements (Items elements) = All IsShort elements
HasShortElements other = ⊤

-- a run takes the entries of a value that a column has, where its elements are short
abbrev pub ColumnEntriesAreStorable : Type 0
ColumnEntriesAreStorable =
    (kind : ColType) (value : KeyVal) (ptr : RowPtr) → IsValueOf kind value → HasShortElements value → IsPointer ptr
    → AreStorableEntries value ptr
