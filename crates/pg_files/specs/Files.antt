-- What each call of the trait `Files` does to the outside, as far as it is told.
use Rattle.std.specs.Prelude.{◌≡◌, ◌⊎◌, ℕ, ◌<◌, ◌≤◌, List, [], ◌++◌, length, take, drop, Option, Some, None, is_some, unwrap_or, Bool, Result, Ok, Err, ⊤}
use Rattle.pg_files.specs.Outside.{FileMap, Outside, SameOthers}
use Rattle.pg_files.specs.declared.files.Failed.{Failed}

-- an absent file counts as empty
abbrev pub content : Option (List ℕ) → List ℕ
content file = unwrap_or file []

-- one file has these bytes now, and every other is as before
pub record SetsFile (name bytes : List ℕ) (old new : FileMap) : Type 0 where
  pub here : new name ≡ Some bytes
  pub others : SameOthers name old new

-- the same of files that may not be told
abbrev pub ToldSets : List ℕ → (FileMap → List ℕ) → Option FileMap → Option FileMap → Type 0
ToldSets name bytes None new = new ≡ None
ToldSets name bytes (Some old) None = ⊥
ToldSets name bytes (Some old) (Some new) = SetsFile name (bytes old) old new

-- a file is empty, whether it was there or not
abbrev pub Empties : List ℕ → Outside → Outside → Type 0
Empties name old new = ToldSets name (λ _. []) old.files new.files

-- a file is as before or empty
abbrev pub MayEmpty : List ℕ → Outside → Outside → Type 0
MayEmpty name old new = (new.files ≡ old.files) ⊎ Empties name old new

-- a file has these bytes more
abbrev pub Appends : List ℕ → List ℕ → Outside → Outside → Type 0
Appends name more old new = ToldSets name (λ files. content (files name) ++ more) old.files new.files

-- a file is as before, or has a front of these bytes more
abbrev pub AppendsFront : List ℕ → List ℕ → Outside → Outside → Type 0
AppendsFront name piece old new =
    (new.files ≡ old.files) ⊎ ((count : ℕ) × (count ≤ length piece) × Appends name (take count piece) old new)

-- a text was said, of what may not be told
abbrev pub ToldSays : List ℕ → Option (List ℕ) → Option (List ℕ) → Type 0
ToldSays text None new = new ≡ None
ToldSays text (Some old) new = new ≡ Some (old ++ text)

-- this text was said
abbrev pub Says : List ℕ → Outside → Outside → Type 0
Says text old new = ToldSays text old.said new.said

-- a front of this text was said
abbrev pub SaysFront : List ℕ → Outside → Outside → Type 0
SaysFront text old new = (count : ℕ) × (count ≤ length text) × Says (take count text) old new

-- the first bytes of the buffer are those of the file from a place on, and there are none only at the file's end
pub record HoldsBytes (bytes : List ℕ) (place count : ℕ) (buffer : List ℕ) : Type 0 where
  pub same : take count buffer ≡ take count (drop place bytes)
  pub inside : count ≤ length (drop place bytes)
  pub end : 0 < length buffer → count ≡ 0 → length bytes ≤ place

-- what a read gives of one file: an absent file gives nothing
abbrev pub GivesBytes : Option (List ℕ) → ℕ → ℕ → List ℕ → Type 0
GivesBytes None place count buffer = ⊥
GivesBytes (Some bytes) place count buffer = HoldsBytes bytes place count buffer

-- the same of files that may not be told
abbrev pub ToldGives : Option FileMap → List ℕ → ℕ → ℕ → List ℕ → Type 0
ToldGives None name place count buffer = ⊤
ToldGives (Some files) name place count buffer = GivesBytes (files name) place count buffer

-- what a read gives that answers so
abbrev pub Reads : List ℕ → ℕ → Result ℕ Failed → List ℕ → Outside → Type 0
Reads name place (Err e) buffer outside = ⊤
Reads name place (Ok count) buffer outside = ToldGives outside.files name place count buffer

-- whether a file is there, of files that may not be told
abbrev pub ToldIsThere : Option FileMap → List ℕ → Bool → Type 0
ToldIsThere None name found = ⊤
ToldIsThere (Some files) name found = found ≡ is_some (files name)

-- what asking for a file tells that answers so
abbrev pub IsThere : List ℕ → Result Bool Failed → Outside → Type 0
IsThere name (Err e) outside = ⊤
IsThere name (Ok found) outside = ToldIsThere outside.files name found
