-- What the passes over the bytes of normalised keys keep.
use Rattle.std.specs.Prelude.{◌≡◌, ◌≢◌, ℕ, ◌<◌, ◌-◌, ◌==◌, if◌then◌else◌, List, [], ◌∷◌, ◌++◌, length, take, slice_index, All, ℤ}
use Rattle.std.specs.Int.{bytes_high_first}
use Rattle.opclass.specs.declared.value.KeyVal.{KeyVal}
use Rattle.opclass.specs.declared.spec.SortPart.{SortPart}
use Rattle.opclass.specs.Norm.{lifted, escaped, directed_bytes, piece, IsKeyValue}

-- bytes stand in front of others
abbrev pub IsInFront : List ℕ → List ℕ → Type 0
IsInFront front bytes = take (length front) bytes ≡ front

-- the bytes before the first one of a value went behind those of a buffer, and these are left
pub record PutsClear (value : ℕ) (old new bytes left : List ℕ) : Type 0 where
  pub front : List ℕ
  pub put : new ≡ old ++ front
  pub split : bytes ≡ front ++ left
  pub clear : All (λ byte. byte ≢ value) front
  pub stop : 0 < length left → slice_index left 0 ≡ value

-- bytes with their end, where a zero is spelt by a mark
abbrev pub marked : ℕ → List ℕ → List ℕ
marked mark [] = mark ∷ mark ∷ []
marked mark (byte ∷ bytes) =
    if byte == mark then mark ∷ (255 - mark) ∷ marked mark bytes else byte ∷ marked mark bytes

-- how a zero is spelt in a column's bytes
abbrev pub zero_of : SortPart → ℕ
zero_of part = if part.descending then 255 else 0

-- no such bytes stand in front
abbrev pub HasNoEnd : ℕ → List ℕ → Type 0
HasNoEnd mark bytes = (inside behind : List ℕ) → bytes ≢ marked mark inside ++ behind

-- the eight bytes of a number stand in front, by the column's direction
abbrev pub StartsWithNumber : SortPart → List ℕ → ℤ → List ℕ → Type 0
StartsWithNumber part bytes number behind = bytes ≡ directed_bytes part (bytes_high_first 8 (lifted number)) ++ behind

-- bytes with their end stand in front, by the column's direction
pub record StartsWithBytes (part : SortPart) (bytes inside behind : List ℕ) : Type 0 where
  pub are_bytes : All (λ byte. byte < 256) inside
  pub split : bytes ≡ directed_bytes part (escaped inside) ++ behind

-- the piece of a value stands in front
pub record StartsWithPiece (part : SortPart) (bytes : List ℕ) (value : KeyVal) (behind : List ℕ) : Type 0 where
  pub is_key : IsKeyValue value
  pub split : bytes ≡ piece part value ++ behind
