-- Normalised keys: the values of several columns as one list of bytes, whose order as unsigned bytes is the order of
-- the values. Each value has a piece of its own, and a piece shows where it ends.
use Rattle.std.specs.Prelude.{◌≡◌, ℕ, ◌+◌, ◌-◌, ◌^◌, ◌<◌, zero, suc, ℤ, pos, negsuc, ⊤, if◌then◌else◌, List, [], ◌∷◌, ◌++◌, length, map, All, FitsSigned}
use Rattle.std.specs.Int.{w64, bytes_high_first}
use Rattle.opclass.specs.declared.value.KeyVal.{KeyVal}
use Rattle.opclass.specs.declared.value.KeyVal.TheVariants.{Nil, Num, Raw, Items}
use Rattle.opclass.specs.declared.spec.SortPart.{SortPart}

-- a number without a sign that stands to others as the signed number does
abbrev pub lifted : ℤ → ℕ
lifted (pos n) = 2 ^ 63 + n
lifted (negsuc n) = 2 ^ 63 - suc n

-- a byte, and behind a zero a mark that it isn't the end
abbrev pub escape : ℕ → List ℕ
escape zero = 0 ∷ 255 ∷ []
escape (suc n) = suc n ∷ []

-- bytes that show their end, which is two zeros
abbrev pub escaped : List ℕ → List ℕ
escaped [] = 0 ∷ 0 ∷ []
escaped (byte ∷ bytes) = escape byte ++ escaped bytes

-- bytes in the other order
abbrev pub turned : List ℕ → List ℕ
turned bytes = map (λ byte. 255 - byte) bytes

-- bytes of a column, by its direction
abbrev pub directed_bytes : SortPart → List ℕ → List ℕ
directed_bytes part bytes = if part.descending then turned bytes else bytes

-- the piece of a null
abbrev pub null_byte : SortPart → ℕ
null_byte part = if part.nulls_first then 0 else 3

-- A value's piece: its kind, and then the value by the column's direction. An array has none.
abbrev pub piece : SortPart → KeyVal → List ℕ
piece part Nil = null_byte part ∷ []
piece part (Num number) = 1 ∷ directed_bytes part (bytes_high_first 8 (lifted number))
piece part (Raw bytes) = 2 ∷ directed_bytes part (escaped bytes)
piece part (Items elements) = []

-- the pieces of several columns, one behind the other
abbrev pub norm_of : List SortPart → List KeyVal → List ℕ
norm_of [] values = []
norm_of (part ∷ parts) [] = []
norm_of (part ∷ parts) (value ∷ values) = piece part value ++ norm_of parts values

-- a value that a key column has: a number of 64 bits, bytes or null, and no array
abbrev pub IsKeyValue : KeyVal → Type 0
IsKeyValue Nil = ⊤
IsKeyValue (Num number) = FitsSigned w64 number
IsKeyValue (Raw bytes) = All (λ byte. byte < 256) bytes
IsKeyValue (Items elements) = ⊥

-- values of the key columns that a sort order has
pub record AreKeys (parts : List SortPart) (values : List KeyVal) : Type 0 where
  pub columns : length parts ≡ length values
  pub each : All IsKeyValue values

-- these values have these bytes as their normalised key
pub record IsNormOf (parts : List SortPart) (values : List KeyVal) (bytes : List ℕ) : Type 0 where
  pub keys : AreKeys parts values
  pub bytes_are : bytes ≡ norm_of parts values
