-- The value that a stored one is, or why it isn't read: values that are compressed or stored elsewhere aren't.
use Rattle.std.specs.Prelude.{ℕ, List, option_map, ok_or, Result, Err}
use Rattle.opclass.specs.declared.types.ColType.{ColType}
use Rattle.opclass.specs.declared.types.Form.{Form}
use Rattle.opclass.specs.declared.types.Form.TheVariants.{Array}
use Rattle.opclass.specs.declared.value.Elem.{Elem}
use Rattle.opclass.specs.declared.value.Elem.TheVariants as elem
use Rattle.opclass.specs.declared.value.KeyVal.{KeyVal}
use Rattle.opclass.specs.declared.value.KeyVal.TheVariants.{Nil, Num, Raw, Items}
use Rattle.opclass.specs.Types.{facts_of}
use Rattle.heap_row.specs.declared.fault.RowCause.{RowCause}
use Rattle.heap_row.specs.declared.fault.RowCause.TheVariants as cause
use Rattle.heap_row.specs.declared.varlena.Storage.{Storage}
use Rattle.heap_row.specs.declared.varlena.Storage.TheVariants.{Plain, Compressed, External}
use Rattle.heap_row.specs.declared.varlena.Stored.{Stored}
use Rattle.heap_row.specs.Array.{array_of}
use Rattle.heap_row.specs.Scalar.{scalar_of}
use Rattle.heap_row.specs.Varlena.{content_of}

-- what an element of an array is as the value of a column
abbrev pub value_of_elem : Elem → KeyVal
value_of_elem elem.Null = Nil
value_of_elem (elem.Num number) = Num number
value_of_elem (elem.Raw bytes) = Raw bytes

-- the value of this form that a content is
abbrev pub plain_datum : Form → List ℕ → Result KeyVal RowCause
plain_datum (Array element) content = ok_or (option_map (λ elements. Items elements) (array_of element content)) cause.BadArray
plain_datum form content = ok_or (option_map value_of_elem (scalar_of form content)) cause.BadTruth

-- the same, by how it is stored
abbrev pub stored_datum : Storage → Form → List ℕ → Result KeyVal RowCause
stored_datum Plain form content = plain_datum form content
stored_datum Compressed form content = Err cause.Compressed
stored_datum External form content = Err cause.External

-- the value of a column of this type that begins where bytes do
abbrev pub datum_of : ColType → Stored → List ℕ → Result KeyVal RowCause
datum_of kind stored bytes = stored_datum stored.storage (facts_of kind).form (content_of stored bytes)
