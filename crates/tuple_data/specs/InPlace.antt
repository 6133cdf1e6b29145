-- The values of a tuple where they stand in its bytes.
use Rattle.std.specs.Prelude.{◌≡◌, ℕ, ◌+◌, ◌^◌, ◌<◌, List, ◌++◌, length}
use Rattle.std.specs.List.{AllZip}
use Rattle.opclass.specs.declared.types.ColType.{ColType}
use Rattle.opclass.specs.declared.value.KeyVal.{KeyVal}
use Rattle.opclass.specs.Values.{IsValueOf}
use Rattle.tuple_data.specs.Data.{data_from}
use Rattle.tuple_data.specs.Fetch.{values_at}
use Rattle.tuple_data.specs.Nulls.{null_bits}
use Rattle.tuple_data.specs.Reading.{AreStored}

-- from a place on the bytes begin with these values' data, and exactly those that the null bits name aren't null
pub record ReadsAt (place : ℕ) (kinds : List ColType) (bits : ℕ) (bytes : List ℕ) (values : List KeyVal) : Type 0 where
  pub typed : AllZip IsValueOf kinds values
  pub present : null_bits values ≡ bits
  pub behind : List ℕ
  pub whole : bytes ≡ data_from place kinds values ++ behind

-- the values that are fetched are those whose data the bytes begin with
pub record AreInPlace (place : ℕ) (kinds : List ColType) (bits : ℕ) (bytes : List ℕ) : Type 0 where
  pub stored : AreStored kinds
  pub size : place + length bytes < 2 ^ 30
  pub reads : ReadsAt place kinds bits bytes (values_at place kinds bits bytes)
