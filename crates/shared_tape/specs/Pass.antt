-- What the passes over records keep.
use Rattle.std.specs.Prelude.{◌≡◌, ℕ, List, ◌++◌, length, All}
use Rattle.std.specs.List.{flat_map}
use Rattle.opclass.specs.declared.value.KeyVal.{KeyVal}
use Rattle.opclass.specs.Order.{unsaid}
use Rattle.opclass.specs.Norm.{piece, norm_of, AreKeys, IsKeyValue}
use Rattle.opclass.specs.Pass.{StartsWithPiece}
use Rattle.opclass.specs.declared.spec.SortPart.{SortPart}
use Rattle.shared_tape.specs.declared.stored.Record.{Record}
use Rattle.shared_tape.specs.Stored.{order_bytes, IsStorable}
use Rattle.shared_tape.specs.Places.{HasRecordAt, records_at, space_of}

-- these records were laid one behind the other, and nothing else
pub record AreLaid (order : List SortPart) (bytes starts : List ℕ) (rows : List Record) : Type 0 where
  pub each : All (HasRecordAt order bytes) starts
  pub are : records_at order bytes starts ≡ rows
  pub size : length bytes ≡ space_of order rows

-- bytes are the order bytes of some record
pub record AreOrderBytes (order : List SortPart) (bytes : List ℕ) : Type 0 where
  pub row : Record
  pub storable : IsStorable order row
  pub are : bytes ≡ order_bytes order row

-- a value's piece stands in front of bytes
abbrev pub HasPieceInFront : SortPart → List ℕ → Type 0
HasPieceInFront part bytes = (value : KeyVal) × (behind : List ℕ) × StartsWithPiece part bytes value behind

-- the pieces of a value for each column stand in front of bytes, one behind the other
pub record HaveKeysInFront (parts : List SortPart) (bytes : List ℕ) : Type 0 where
  pub keys : List KeyVal
  pub behind : List ℕ
  pub are_keys : AreKeys parts keys
  pub split : bytes ≡ norm_of parts keys ++ behind

-- bytes are the pieces of these values, one behind the other
pub record ArePiecesOf (bytes : List ℕ) (values : List KeyVal) : Type 0 where
  pub each : All IsKeyValue values
  pub are : bytes ≡ flat_map (piece unsaid) values

-- bytes are the pieces of some values
abbrev pub ArePieces : List ℕ → Type 0
ArePieces bytes = (values : List KeyVal) × ArePiecesOf bytes values

-- bytes are the pieces of the values that were read, and then of others, which are left
pub record IsReadTo (bytes : List ℕ) (values : List KeyVal) (left : List ℕ) : Type 0 where
  pub others : List KeyVal
  pub rest : ArePiecesOf left others
  pub whole : ArePiecesOf bytes (values ++ others)
