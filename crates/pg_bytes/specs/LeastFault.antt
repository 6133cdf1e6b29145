-- The one fault that is told of many: the lesser item first, and at one item the lesser number of the cause. What an
-- item is, a line pointer of a page or another thing that has a number, and what its faults are is each reader's own.
use Rattle.std.specs.Prelude.{◌≡◌, ◌⊎◌, ℕ, ◌<◌, ◌≤◌}

-- a fault isn't behind another, each by its item and the number of its cause
abbrev pub IsNotBehind : ℕ → ℕ → ℕ → ℕ → Type 0
IsNotBehind item number item' number' = (item < item') ⊎ ((item ≡ item') × (number ≤ number'))

-- the least of the faults that items have, told by its item and the number of its cause
pub record IsLeastFault {Cause : Type 0} (number_of : Cause → ℕ) (HasFault : ℕ → Cause → Type 0) (item number : ℕ)
    : Type 0 where
  pub cause : Cause
  pub told : number ≡ number_of cause
  pub there : HasFault item cause
  pub least : (other : ℕ) (its : Cause) → HasFault other its → IsNotBehind item number other (number_of its)
