-- What the pass that puts the data keeps.
use Rattle.std.proofs.Common.{◌≡◌, ℕ, ◌-◌, ◌^◌, ◌<◌, ◌≤◌, List, ◌++◌, length, take}
use Rattle.opclass.specs.declared.types.ColType.{ColType}
use Rattle.opclass.specs.declared.value.KeyVal.{KeyVal}
use Rattle.tuple_data.specs.Data.{data_from}

-- behind the old bytes stand data, of which these columns are still to come
pub record PutsSoFar (old now whole : List ℕ) (kinds : List ColType) (values : List KeyVal) : Type 0 where
  pub begun : length old ≤ length now
  pub kept : take (length old) now ≡ old
  pub left : now ++ data_from (length now - length old) kinds values ≡ old ++ whole
  pub size : length (data_from (length now - length old) kinds values) < 2 ^ 30
