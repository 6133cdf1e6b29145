-- A value as it stands in the data of a tuple (fill_val of heaptuple.c, varatt.h).
use Rattle.std.specs.Prelude.{◌≡◌, ◌⊎◌, ℕ, ◌+◌, ◌-◌, ◌*◌, ℤ, nat_le, if◌then◌else◌, Option, Some, None, List, [], ◌∷◌, ◌++◌, length}
use Rattle.std.specs.Int.{w64, cast_unsigned}
use Rattle.pg_bytes.specs.Numbers.{number_bytes, rounded_up}
use Rattle.pg_bytes.specs.Places.{zeros}
use Rattle.opclass.specs.declared.types.ColType.{ColType}
use Rattle.opclass.specs.declared.types.Width.{Width}
use Rattle.opclass.specs.declared.types.Width.TheVariants.{Fixed, Variable}
use Rattle.opclass.specs.declared.value.KeyVal.{KeyVal}
use Rattle.opclass.specs.declared.value.KeyVal.TheVariants.{Num, Raw}
use Rattle.opclass.specs.Types.{facts_of}

-- bytes, and the multiple of bytes at which they stand
pub record Datum : Type 0 where
  pub alignment : ℕ
  pub bytes : List ℕ

-- the most bytes that stand under a header of one byte (VARATT_CAN_MAKE_SHORT)
abbrev pub short_most : ℕ
short_most = 126

-- the header of one byte and that of four, which count themselves (SET_VARSIZE_1B, SET_VARSIZE_4B)
abbrev pub short_header : ℕ → ℕ
short_header count = 2 * (1 + count) + 1

abbrev pub long_header : ℕ → List ℕ
long_header count = number_bytes 4 (4 * (4 + count))

-- bytes of a variable width, under their header
abbrev pub variable_datum : List ℕ → Datum
variable_datum bytes =
    if nat_le (length bytes) short_most
    then record { alignment = 1; bytes = short_header (length bytes) ∷ bytes }
    else record { alignment = 4; bytes = long_header (length bytes) ++ bytes }

-- A number in two's complement, low byte first (store_att_byval of tupmacs.h). No type has more than eight bytes of it.
abbrev pub number_datum : ℕ → ℕ → ℤ → Option Datum
number_datum width alignment number =
    if nat_le width 8
    then Some (record { alignment = alignment; bytes = number_bytes width (cast_unsigned w64 number) })
    else None

-- a value of a type of this width and alignment, or None: a null takes no place, and no tuple of an index has an array
abbrev pub datum_of : Width → ℕ → KeyVal → Option Datum
datum_of (Fixed width) alignment (Num number) = number_datum width alignment number
datum_of (Fixed width) alignment (Raw bytes) = Some (record { alignment = alignment; bytes = bytes })
datum_of Variable alignment (Raw bytes) = Some (variable_datum bytes)
datum_of width alignment value = None

-- the zeros from a place up to the next multiple of an alignment (att_align_nominal of tupmacs.h)
abbrev pub padding : ℕ → ℕ → List ℕ
padding alignment place = zeros (rounded_up alignment place - place)

-- what stands from a place on
abbrev pub stored_at : ℕ → Option Datum → List ℕ
stored_at place None = []
stored_at place (Some datum) = padding datum.alignment place ++ datum.bytes

-- what a column's value takes from a place on
abbrev pub piece_at : ℕ → ColType → KeyVal → List ℕ
piece_at place kind value = stored_at place (datum_of (facts_of kind).width (facts_of kind).alignment value)

-- a multiple at which values stand: that of a byte, of two bytes, of four or of eight (typalign of pg_type.h)
abbrev pub IsAlignment : ℕ → Type 0
IsAlignment alignment = (alignment ≡ 1) ⊎ ((alignment ≡ 2) ⊎ ((alignment ≡ 4) ⊎ (alignment ≡ 8)))
