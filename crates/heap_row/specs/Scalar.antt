-- The value that bytes are, where it is no array (fetch_att of tupmacs.h, and the types' own files).
use Rattle.std.specs.Prelude.{ℕ, ◌==◌, if◌then◌else◌, pos, List, length, slice_index, Option, Some, None}
use Rattle.byteorder.specs.Endian.{little_number, twos_complement}
use Rattle.opclass.specs.declared.types.Form.{Form}
use Rattle.opclass.specs.declared.types.Form.TheVariants.{Truth, Signed, Unsigned, Bytes, Array}
use Rattle.opclass.specs.declared.value.Elem.{Elem}
use Rattle.opclass.specs.declared.value.Elem.TheVariants.{Num, Raw}

-- a truth value is a byte of 0 or 1
abbrev pub truth_of : ℕ → Option Elem
truth_of byte = if byte == 0 then Some (Num (pos 0)) else if byte == 1 then Some (Num (pos 1)) else None

-- the value of this form that all of the bytes are
abbrev pub scalar_of : Form → List ℕ → Option Elem
scalar_of Truth bytes = truth_of (slice_index bytes 0)
scalar_of Signed bytes = Some (Num (twos_complement (length bytes) (little_number (length bytes) bytes)))
scalar_of Unsigned bytes = Some (Num (pos (little_number (length bytes) bytes)))
scalar_of Bytes bytes = Some (Raw bytes)
scalar_of (Array element) bytes = None
