-- The values that bytes are the data of (index_deform_tuple of indextuple.c). Beside the bytes, the null bitmap says which
-- of the columns have a value.
use Rattle.std.specs.Prelude.{◌≡◌, ◌⊎◌, ℕ, if◌then◌else◌, false, ⊤, List, ◌++◌, length, All}
use Rattle.std.specs.List.{AllZip}
use Rattle.std.specs.Int.{w64, cast_unsigned}
use Rattle.pg_bytes.specs.Numbers.{number_bytes}
use Rattle.opclass.specs.declared.types.ColType.{ColType}
use Rattle.opclass.specs.declared.types.Form.{Form}
use Rattle.opclass.specs.declared.types.Form.TheVariants.{Truth, Signed, Unsigned, Bytes, Array}
use Rattle.opclass.specs.declared.types.Width.{Width}
use Rattle.opclass.specs.declared.types.Width.TheVariants.{Fixed}
use Rattle.opclass.specs.declared.value.KeyVal.{KeyVal}
use Rattle.opclass.specs.declared.value.KeyVal.TheVariants.{Nil, Num, Raw}
use Rattle.opclass.specs.Types.{facts_of}
use Rattle.opclass.specs.Values.{IsBytesOf, IsNumberOf, IsValueOf}
use Rattle.tuple_data.specs.Data.{data_of}
use Rattle.tuple_data.specs.Datum.{piece_at}
use Rattle.tuple_data.specs.Nulls.{is_null, null_bits}
use Rattle.tuple_data.specs.declared.attribute.Attribute.{Attribute}
use Rattle.tuple_data.specs.declared.attribute.Attribute.TheVariants as attribute

-- a form whose values stand in an index tuple, so no array's
abbrev pub IsStored : Form → Type 0
IsStored (Array element) = ⊥
IsStored form = ⊤

-- no column is an array
abbrev pub AreStored : List ColType → Type 0
AreStored kinds = All (λ kind. IsStored (facts_of kind).form) kinds

-- the widths that the values of a form have (pg_type.dat)
abbrev pub IsFit : Form → Width → Type 0
IsFit Truth (Fixed width) = width ≡ 1
IsFit Signed (Fixed width) = (width ≡ 2) ⊎ ((width ≡ 4) ⊎ (width ≡ 8))
IsFit Unsigned (Fixed width) = width ≡ 4
IsFit Bytes width = ⊤
IsFit other width = ⊥

-- the value that an attribute is
abbrev pub value_of : Attribute → KeyVal
value_of attribute.Null = Nil
value_of (attribute.Number number) = Num number
value_of (attribute.Bytes bytes) = Raw bytes.now

-- the value of this form and of a fixed width that all of the bytes are
abbrev pub IsContent : Form → List ℕ → KeyVal → Type 0
IsContent form bytes (Num number) =
    IsNumberOf form (Fixed (length bytes)) number × (bytes ≡ number_bytes (length bytes) (cast_unsigned w64 number))
IsContent form bytes (Raw own) = IsBytesOf form (Fixed (length bytes)) own × (bytes ≡ own)
IsContent form bytes other = ⊥

-- from a place on the bytes are those of this value, which isn't null, and what stands behind it
pub record BeginsWithValue (place : ℕ) (kind : ColType) (bytes : List ℕ) (value : KeyVal) (behind : List ℕ) : Type 0 where
  pub typed : IsValueOf kind value
  pub there : is_null value ≡ false
  pub «data» : bytes ≡ piece_at place kind value ++ behind

-- the same of a value whose null bit is this; a null takes no bytes
pub record IsNext (place : ℕ) (kind : ColType) (present : ℕ) (bytes : List ℕ) (value : KeyVal) (behind : List ℕ) : Type 0 where
  pub typed : IsValueOf kind value
  pub bit : (if is_null value then 0 else 1) ≡ present
  pub «data» : bytes ≡ piece_at place kind value ++ behind

-- the bytes begin with the data of these values, and exactly those that the null bits name aren't null
pub record BeginsWithData (kinds : List ColType) (present : ℕ) (bytes : List ℕ) (values : List KeyVal) : Type 0 where
  pub typed : AllZip IsValueOf kinds values
  pub bits : null_bits values ≡ present
  pub behind : List ℕ
  pub «data» : bytes ≡ data_of kinds values ++ behind
