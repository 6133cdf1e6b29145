-- When a read of files in memory fails, and which files are there.
use Rattle.std.proofs.Common.{◌≡◌, ◌⊎◌, inl, inr, Bool, true, false, IsTrue, ℕ, List, Option, Some, None, ap, sym}
use Rattle.std.specs.Prelude.{MatchOption, is_some}
use Rattle.pg_files.specs.Memory.{GivesAllThatFits}

-- a file that was read is there
pub there : (most : ℕ) (file : Option (List ℕ)) (place count : ℕ) (old new : List ℕ) → GivesAllThatFits most file place count old new → file ≡ None → ⊥
there most None place count old new read none = read
there most (Some bytes) place count old new read none = cc

-- a call that isn't set to fail, and that nothing else made fail, doesn't fail
pub goes_on : (set : Bool) (other : Type 0) → (IsTrue set → false ≡ true) → (other → ⊥)
    → (false ≡ true → IsTrue set ⊎ other) × (IsTrue set ⊎ other → false ≡ true)
goes_on set other off none =
    ((λ e. cc), (λ why. elim why [ inl on ↦ off on | inr it ↦ absurd (none it) ]))

-- a file is there where it was found
pub presence : {T : Type 0} (bytes_of : T → List ℕ) (found : Option T) (file : Option (List ℕ))
    → MatchOption found (file ≡ None) (λ here. file ≡ Some (bytes_of here)) → is_some found ≡ is_some file
presence bytes_of None file told = sym (ap (λ (f : Option (List ℕ)). is_some f) told)
presence bytes_of (Some here) file told = sym (ap (λ (f : Option (List ℕ)). is_some f) told)
