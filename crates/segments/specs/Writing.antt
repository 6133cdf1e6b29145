-- Writing a relation: what each segment has, and what is left after a failure.
use Rattle.std.specs.Prelude.{◌≡◌, ◌≢◌, ◌⊎◌, ◌+◌, ◌*◌, ◌/◌, ◌<◌, ◌≤◌, ℕ, List, length, take, drop, Option, Some, None, Result, IsOk, IsErr}
use Rattle.pg_files.specs.Faults.{most_faults}
use Rattle.pg_files.specs.Files.{ToldSets}
use Rattle.pg_files.specs.Outside.{FileMap, NoneFalls, Outside}
use Rattle.segments.specs.Names.{segment_name}

-- how many segments so many bytes are written in: a full last one is followed by an empty one (mdextend of md.c)
abbrev pub segments_for : ℕ → List ℕ → ℕ
segments_for size image = length image / size + 1

-- what a segment has of them
abbrev pub part_of : ℕ → List ℕ → ℕ → List ℕ
part_of size image number = take size (drop (number * size) image)

-- so many first segments have their parts, and every other file is as before
pub record HaveParts (size : ℕ) (name image : List ℕ) (count : ℕ) (old new : FileMap) : Type 0 where
  pub each : (number : ℕ) → number < count → new (segment_name name number) ≡ Some (part_of size image number)
  pub others : (other : List ℕ) → ((number : ℕ) → number < count → other ≢ segment_name name number) → new other ≡ old other

-- the same of files that may not be told
abbrev pub ToldHaveParts : ℕ → List ℕ → List ℕ → ℕ → Option FileMap → Option FileMap → Type 0
ToldHaveParts size name image count None new = new ≡ None
ToldHaveParts size name image count (Some old) None = ⊥
ToldHaveParts size name image count (Some old) (Some new) = HaveParts size name image count old new

-- the relation has these bytes, in segments, and every other file is as before
abbrev pub HoldsRelation : ℕ → List ℕ → List ℕ → Outside → Outside → Type 0
HoldsRelation size name image old new = ToldHaveParts size name image (segments_for size image) old.files new.files

-- a segment is as before, or has a front of its part
abbrev pub HasFront : List ℕ → List ℕ → Option FileMap → Option FileMap → Type 0
HasFront segment part old new =
    (new ≡ old) ⊎ ((count : ℕ) × (count ≤ length part) × ToldSets segment (λ _. take count part) old new)

-- The first segments have their parts, the next one is as before or has a front of its part, and every other file is as
-- before.
pub record HoldsFrontOfRelation (size : ℕ) (name image : List ℕ) (old new : Outside) : Type 0 where
  pub number : ℕ
  pub within : number < segments_for size image
  pub between : Option FileMap
  pub before : ToldHaveParts size name image number old.files between
  pub here : HasFront (segment_name name number) (part_of size image number) between new.files

-- writing a relation: a failure raises the count of one of its segments' names, and without one no count rose
pub record CountsSeriesWrite {T E : Type 0} (size : ℕ) (name image : List ℕ) (result : Result T E) (old new : Outside) : Type 0 where
  pub raised : IsErr result → ((number : ℕ) → old.write_faults (segment_name name number) < most_faults)
      → (number : ℕ) × (number < segments_for size image)
      × (old.write_faults (segment_name name number) < new.write_faults (segment_name name number))
  pub kept : IsOk result → new.write_faults ≡ old.write_faults

-- no file of another name than the relation's segments was touched
abbrev pub KeepsOtherNames : List ℕ → Option FileMap → Option FileMap → Type 0
KeepsOtherNames name None new = new ≡ None
KeepsOtherNames name (Some old) None = ⊥
KeepsOtherNames name (Some old) (Some new) =
    (other : List ℕ) → ((number : ℕ) → other ≢ segment_name name number) → new other ≡ old other

-- Nothing happened but writes of a relation's segments: all else is as before, save that counts of failed writes may
-- have risen.
pub record OnlyWritesSeries (name : List ℕ) (old new : Outside) : Type 0 where
  pub others : KeepsOtherNames name old.files new.files
  pub said : new.said ≡ old.said
  pub read_faults : new.read_faults ≡ old.read_faults
  pub write_faults : NoneFalls old.write_faults new.write_faults
  pub ask_faults : new.ask_faults ≡ old.ask_faults
  pub say_faults : new.say_faults ≡ old.say_faults
