-- The outside as an object shows it, and what a call leaves alone of it.
use Rattle.std.specs.Prelude.{◌≡◌, ◌≢◌, ℕ, ◌≤◌, List, Option, Some, None}

-- the bytes of each file, where there is one of that name
abbrev pub FileMap : Type 0
FileMap = List ℕ → Option (List ℕ)

-- all that an object of the trait `Files` shows
pub record Outside : Type 0 where
  -- the bytes of each file, where the object tells them
  pub files : Option FileMap
  -- the bytes said so far, where the object tells them
  pub said : Option (List ℕ)
  -- how often a read of each file failed
  pub read_faults : List ℕ → ℕ
  -- how often each file's making or growing failed
  pub write_faults : List ℕ → ℕ
  -- how often asking for each file failed
  pub ask_faults : List ℕ → ℕ
  -- how often saying failed
  pub say_faults : ℕ

-- no name's count fell
abbrev pub NoneFalls : (List ℕ → ℕ) → (List ℕ → ℕ) → Type 0
NoneFalls old new = (name : List ℕ) → old name ≤ new name

-- every file but this one is as before
abbrev pub SameOthers : List ℕ → FileMap → FileMap → Type 0
SameOthers name old new = (other : List ℕ) → other ≢ name → new other ≡ old other

-- the same of files that may not be told
abbrev pub KeepsOthers : List ℕ → Option FileMap → Option FileMap → Type 0
KeepsOthers name None new = new ≡ None
KeepsOthers name (Some old) None = ⊥
KeepsOthers name (Some old) (Some new) = SameOthers name old new

-- Nothing happened but reads: all is as before, save that counts of failed reads may have risen.
pub record OnlyReads (old new : Outside) : Type 0 where
  pub files : new.files ≡ old.files
  pub said : new.said ≡ old.said
  pub read_faults : NoneFalls old.read_faults new.read_faults
  pub write_faults : new.write_faults ≡ old.write_faults
  pub ask_faults : new.ask_faults ≡ old.ask_faults
  pub say_faults : new.say_faults ≡ old.say_faults

-- Nothing happened but asking which files are there: all is as before, save that counts of failures to ask may have
-- risen.
pub record OnlyAsks (old new : Outside) : Type 0 where
  pub files : new.files ≡ old.files
  pub said : new.said ≡ old.said
  pub read_faults : new.read_faults ≡ old.read_faults
  pub write_faults : new.write_faults ≡ old.write_faults
  pub ask_faults : NoneFalls old.ask_faults new.ask_faults
  pub say_faults : new.say_faults ≡ old.say_faults

-- Nothing happened but reads, and asking which files are there.
pub record OnlyReadsAndAsks (old new : Outside) : Type 0 where
  pub files : new.files ≡ old.files
  pub said : new.said ≡ old.said
  pub read_faults : NoneFalls old.read_faults new.read_faults
  pub write_faults : new.write_faults ≡ old.write_faults
  pub ask_faults : NoneFalls old.ask_faults new.ask_faults
  pub say_faults : new.say_faults ≡ old.say_faults

-- Nothing happened but writes of this file: all else is as before, save that counts of failed writes may have risen.
pub record OnlyWrites (name : List ℕ) (old new : Outside) : Type 0 where
  pub others : KeepsOthers name old.files new.files
  pub said : new.said ≡ old.said
  pub read_faults : new.read_faults ≡ old.read_faults
  pub write_faults : NoneFalls old.write_faults new.write_faults
  pub ask_faults : new.ask_faults ≡ old.ask_faults
  pub say_faults : new.say_faults ≡ old.say_faults

-- Nothing happened but saying: all else is as before, save that the count of failures to say may have risen.
pub record OnlySays (old new : Outside) : Type 0 where
  pub files : new.files ≡ old.files
  pub read_faults : new.read_faults ≡ old.read_faults
  pub write_faults : new.write_faults ≡ old.write_faults
  pub ask_faults : new.ask_faults ≡ old.ask_faults
  pub say_faults : old.say_faults ≤ new.say_faults

-- Nothing happened but writes of this file, and saying.
pub record OnlyWritesAndSays (name : List ℕ) (old new : Outside) : Type 0 where
  pub others : KeepsOthers name old.files new.files
  pub read_faults : new.read_faults ≡ old.read_faults
  pub write_faults : NoneFalls old.write_faults new.write_faults
  pub ask_faults : new.ask_faults ≡ old.ask_faults
  pub say_faults : old.say_faults ≤ new.say_faults
