-- One reading after another, and readings that a test decides.
use Rattle.std.proofs.Common.{◌≡◌, ◌⊎◌, Bool, true, false, if◌then◌else◌, Option, Some, None, option_map, Result, Ok, Err, refl, inl, inr}
use Rattle.std.specs.Prelude.{option_and_then, ok_or}
use Rattle.heap_row.specs.declared.fault.RowCause.{RowCause}
use Rattle.heap_row.specs.Fault.{◌>>=◌}

-- what was read came of a reading before
pub bind_ok : {A B : Type 0} (r : Result A RowCause) (f : A → Result B RowCause) (y : B) → (r >>= f) ≡ Ok y
    → (x : A) × (r ≡ Ok x) × (f x ≡ Ok y)
bind_ok (Ok x) f y read = (x, refl, read)
bind_ok (Err cause) f y read = cc

-- which way a test went
pub chosen : {A : Type 0} (b : Bool) (x y z : A) → (if b then x else y) ≡ z
    → ((b ≡ true) × (x ≡ z)) ⊎ ((b ≡ false) × (y ≡ z))
chosen true x y z e = inl (refl, e)
chosen false x y z e = inr (refl, e)

-- the same where what wasn't read has no cause
pub and_then_some : {A B : Type 0} (o : Option A) (f : A → Option B) (y : B) → option_and_then f o ≡ Some y
    → (x : A) × (o ≡ Some x) × (f x ≡ Some y)
and_then_some (Some x) f y read = (x, refl, read)
and_then_some None f y read = cc

pub map_some : {A B : Type 0} (o : Option A) (f : A → B) (y : B) → option_map f o ≡ Some y → (x : A) × (o ≡ Some x) × (f x ≡ y)
map_some (Some x) f y read = (x, refl, cc)
map_some None f y read = cc

-- and where a cause is told of what wasn't read
pub map_ok : {A B : Type 0} (o : Option A) (f : A → B) (cause : RowCause) (y : B) → ok_or (option_map f o) cause ≡ Ok y
    → (x : A) × (o ≡ Some x) × (f x ≡ y)
map_ok (Some x) f cause y read = (x, refl, cc)
map_ok None f cause y read = cc
