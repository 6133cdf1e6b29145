-- What a write of files in memory comes to, step by step.
use Rattle.std.proofs.Common.{◌≡◌, ◌++◌, List, ℕ, Result, Ok, Err, IsErr, OnOk, ap, subst, refl}
use Rattle.pg_files.proofs.NamedFiles.{same_others}
use Rattle.pg_files.specs.Files.{SetsFile, content}
use Rattle.pg_files.specs.Memory.{Memory, called}
use Rattle.pg_files.specs.Outside.{FileMap, SameOthers}
use Rattle.pg_files.specs.declared.files.Failed.{Failed}

-- beginning a call changes no file
begins : (old mid : Memory) → mid ≡ called old → mid.files ≡ old.files
begins old mid counted = ap (λ (m : Memory). m.files) counted

pub only_begins : (name : List ℕ) (old mid : Memory) → mid ≡ called old → SameOthers name old.files mid.files
only_begins name old mid counted = same_others name old.files mid.files (begins old mid counted)

-- what is written after the beginning leaves other files alone
pub others_after : (name : List ℕ) (old mid : Memory) (new : FileMap) → mid ≡ called old → SameOthers name mid.files new → SameOthers name old.files new
others_after name old mid new counted others = subst (λ (files : FileMap). SameOthers name files new) (begins old mid counted) others

-- a file grows after the beginning
pub grows_after : (name piece : List ℕ) (old mid : Memory) (new : FileMap) → mid ≡ called old → SetsFile name (content (mid.files name) ++ piece) mid.files new
    → SetsFile name (content (old.files name) ++ piece) old.files new
grows_after name piece old mid new counted sets =
    subst (λ (files : FileMap). SetsFile name (content (files name) ++ piece) files new) (begins old mid counted) sets

is_none : {T : Type 0} (outer : Result T Failed) (value : T) → IsErr outer → outer ≡ Ok value → ⊥
is_none (Ok x) value fails is = cc
is_none (Err e) value fails is = cc

-- what holds where the inner outcome is good holds where the counted one is
pub passes : {T E : Type 0} (P : Type 0) (inner : Result T E) (outer : Result T Failed) (value : T) → (IsErr inner → IsErr outer) → outer ≡ Ok value
    → OnOk inner P → P
passes P (Ok x) outer value fails is holds = holds
passes P (Err e) outer value fails is holds = absurd (is_none outer value (fails refl) is)
