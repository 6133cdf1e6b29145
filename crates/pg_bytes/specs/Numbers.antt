-- Numbers in a page file: little-endian, and sizes rounded up to an alignment.
use Rattle.std.specs.Prelude.{ℕ, ◌+◌, ◌-◌, ◌*◌, ◌/◌, ℤ, List, drop}
use Rattle.std.specs.Int.{w64, cast_signed}
use Rattle.byteorder.specs.Endian.{little_bytes, little_number}

-- x rounded up to a multiple of the unit (`TYPEALIGN` of c.h)
abbrev pub rounded_up : ℕ → ℕ → ℕ
rounded_up unit x = (x + (unit - 1)) / unit * unit

-- the number of this many bytes at a place
unfoldable pub number_at : ℕ → List ℕ → ℕ → ℕ
number_at width bytes place = little_number width (drop place bytes)

-- the signed number of eight bytes at a place, in two's complement
abbrev pub signed_at : List ℕ → ℕ → ℤ
signed_at bytes place = cast_signed w64 (number_at 8 bytes place)

-- the bytes of a number of this width
unfoldable pub number_bytes : ℕ → ℕ → List ℕ
number_bytes width x = little_bytes width x
