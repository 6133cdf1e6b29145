-- How a value is stored: of a type without a fixed width its header says so (varatt.h).
use Rattle.std.specs.Prelude.{ℕ, ◌/◌, ◌%◌, ◌==◌, ◌||◌, nat_lt, if◌then◌else◌, List, [], ◌∷◌, length, slice_range, Result, Ok, Err}
use Rattle.pg_bytes.specs.Numbers.{number_at}
use Rattle.opclass.specs.declared.types.Width.{Width}
use Rattle.opclass.specs.declared.types.Width.TheVariants.{Fixed, Variable}
use Rattle.heap_row.specs.declared.fault.RowCause.{RowCause}
use Rattle.heap_row.specs.declared.fault.RowCause.TheVariants.{PastEnd, External as BadExternal}
use Rattle.heap_row.specs.declared.varlena.Storage.TheVariants.{Plain, Compressed, External}
use Rattle.heap_row.specs.declared.varlena.Stored.{Stored}

-- VARATT_IS_1B_E: the first byte of a pointer to a value that is stored elsewhere
abbrev pub external_header : ℕ
external_header = 0x01

-- VARTAG_ONDISK: the second byte of a pointer into the table's TOAST table
abbrev pub ondisk_tag : ℕ
ondisk_tag = 18

-- VARHDRSZ_EXTERNAL + sizeof(varatt_external): the bytes of such a pointer
abbrev pub ondisk_size : ℕ
ondisk_size = 18

-- VARHDRSZ: the bytes of a header that isn't short
abbrev pub long_header : ℕ
long_header = 4

-- a value has the bytes of its header, and ends where the bytes do or before
abbrev pub within : List ℕ → Stored → Result Stored RowCause
within bytes stored =
    if nat_lt stored.total stored.header || nat_lt (length bytes) stored.total then Err PastEnd else Ok stored

-- a pointer to a value stored elsewhere: the first byte, and what stands behind it
abbrev pub external_at : List ℕ → Result Stored RowCause
external_at [] = Err PastEnd
external_at (first ∷ []) = Err PastEnd
external_at (first ∷ tag ∷ bytes) =
    if tag == ondisk_tag
    then within (first ∷ tag ∷ bytes) (record { storage = External; header = 2; total = ondisk_size })
    else Err BadExternal

-- a header of four bytes, whose two lowest bits say whether the value is compressed
abbrev pub long_at : List ℕ → Result Stored RowCause
long_at bytes =
    if nat_lt (length bytes) long_header then Err PastEnd else
    within bytes (record {
      storage = if number_at 4 bytes 0 % 4 == 0 then Plain else Compressed;
      header = long_header;
      total = number_at 4 bytes 0 / 4;
    })

-- a header of one byte, an odd one
abbrev pub short_at : ℕ → List ℕ → Result Stored RowCause
short_at first bytes = within bytes (record { storage = Plain; header = 1; total = first / 2 })

-- the value of a type without a fixed width that begins where bytes do
abbrev pub varlena_at : List ℕ → Result Stored RowCause
varlena_at [] = Err PastEnd
varlena_at (first ∷ bytes) =
    if first == external_header then external_at (first ∷ bytes) else
    if first % 2 == 1 then short_at first (first ∷ bytes) else
    long_at (first ∷ bytes)

-- the value of a type of this width that begins where bytes do: one of a fixed width has no header
abbrev pub stored_at : Width → List ℕ → Result Stored RowCause
stored_at (Fixed width) bytes = within bytes (record { storage = Plain; header = 0; total = width })
stored_at Variable bytes = varlena_at bytes

-- VARDATA_ANY: the bytes behind the header
abbrev pub content_of : Stored → List ℕ → List ℕ
content_of stored bytes = slice_range bytes stored.header stored.total
