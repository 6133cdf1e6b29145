-- How many attributes the pivot between two tuples keeps (_bt_keep_natts of nbtutils.c).
use Rattle.std.specs.Prelude.{◌≡◌, ◌≢◌, ℕ, ◌+◌, ◌-◌, ◌<◌, ◌≤◌, List, length, take}
use Rattle.opclass.specs.declared.value.KeyVal.{KeyVal}

-- the attributes up to the first in which the two differ, or one more than there are where none does
pub record KeepsUpToDifference (left right : List KeyVal) (kept : ℕ) : Type 0 where
  pub some : 0 < kept
  pub within : kept ≤ length right + 1
  pub alike : take (kept - 1) left ≡ take (kept - 1) right
  pub apart : kept ≤ length right → take kept left ≢ take kept right
