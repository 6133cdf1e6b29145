-- An index file as it is written, and its report.
use Rattle.std.specs.Prelude.{◌≡◌, ◌⊎◌, ℕ, ◌≤◌, List, length, take}
use Rattle.pg_files.specs.Files.{Says, SaysFront, ToldSets}
use Rattle.pg_files.specs.Outside.{Outside}

-- the file has these bytes, and every other is as before
abbrev pub Holds : List ℕ → List ℕ → Outside → Outside → Type 0
Holds name bytes old new = ToldSets name (λ _. bytes) old.files new.files

-- the files are as before, or this one has a front of these bytes, and every other is as before
abbrev pub HoldsFront : List ℕ → List ℕ → Outside → Outside → Type 0
HoldsFront name bytes old new =
    (new.files ≡ old.files) ⊎ ((count : ℕ) × (count ≤ length bytes) × Holds name (take count bytes) old new)

-- an index file that is to be written, and the report that follows it
pub record Delivery : Type 0 where
  pub name : List ℕ
  pub image : List ℕ
  pub report : List ℕ

abbrev pub delivery : List ℕ → List ℕ → List ℕ → Delivery
delivery name image report = record { name = name; image = image; report = report }

-- the index file holds the image, and the report was said
abbrev pub IsDelivered : Delivery → Outside → Outside → Type 0
IsDelivered index old new = Holds index.name index.image old new × Says index.report old new

-- Either nothing was said, and the index file is as before or holds a front of the image; or the index file holds the
-- image, and a front of the report was said.
abbrev pub IsCutShort : Delivery → Outside → Outside → Type 0
IsCutShort index old new =
    ((new.said ≡ old.said) × HoldsFront index.name index.image old new)
    ⊎ (Holds index.name index.image old new × SaysFront index.report old new)
