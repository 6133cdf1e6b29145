-- The value of an attribute in the place where it stands (fetch_att of tupmacs.h, VARDATA_ANY of varatt.h). Where no
-- value of the type stands, nothing is relied on.
use Rattle.std.specs.Prelude.{ℕ, ◌+◌, ◌-◌, ◌/◌, ◌%◌, pos, nat_eq, if◌then◌else◌, List, [], ◌∷◌, length, take, drop, slice_index}
use Rattle.byteorder.specs.Endian.{little_number, twos_complement}
use Rattle.opclass.specs.declared.types.ColType.{ColType}
use Rattle.opclass.specs.declared.types.Form.{Form}
use Rattle.opclass.specs.declared.types.Form.TheVariants.{Signed, Bytes}
use Rattle.opclass.specs.declared.types.Width.{Width}
use Rattle.opclass.specs.declared.types.Width.TheVariants.{Fixed, Variable}
use Rattle.opclass.specs.declared.value.KeyVal.{KeyVal}
use Rattle.opclass.specs.declared.value.KeyVal.TheVariants.{Nil, Num, Raw}
use Rattle.opclass.specs.Types.{facts_of}
use Rattle.tuple_data.specs.Datum.{padding, piece_at}

-- the value of a form that all of the bytes are
abbrev pub content_of : Form → List ℕ → KeyVal
content_of Bytes own = Raw own
content_of Signed own = Num (twos_complement (length own) (little_number (length own) own))
content_of other own = Num (pos (little_number (length own) own))

-- what stands under a header of one byte, and under one of four
abbrev pub under_short : List ℕ → List ℕ
under_short bytes = take (slice_index bytes 0 / 2 - 1) (drop 1 bytes)

abbrev pub under_long : List ℕ → List ℕ
under_long bytes = take (little_number 4 bytes / 4 - 4) (drop 4 bytes)

-- the bytes of a value, from a place on
abbrev pub own_at : ℕ → Width → ℕ → List ℕ → List ℕ
own_at place (Fixed width) alignment bytes = take width (drop (length (padding alignment place)) bytes)
own_at place Variable alignment bytes =
    if nat_eq (slice_index bytes 0 % 2) 1 then under_short bytes else under_long (drop (length (padding 4 place)) bytes)

-- a column's value, by its null bit
abbrev pub value_at : ℕ → ColType → ℕ → List ℕ → KeyVal
value_at place kind present bytes =
    if nat_eq present 0
    then Nil
    else content_of (facts_of kind).form (own_at place (facts_of kind).width (facts_of kind).alignment bytes)

-- the values of several columns, each behind those in front of it
abbrev pub values_at : ℕ → List ColType → ℕ → List ℕ → List KeyVal
values_at place [] bits bytes = []
values_at place (kind ∷ kinds) bits bytes =
    value_at place kind (bits % 2) bytes
    ∷ values_at (place + length (piece_at place kind (value_at place kind (bits % 2) bytes))) kinds (bits / 2)
    (drop (length (piece_at place kind (value_at place kind (bits % 2) bytes))) bytes)
