-- What calls leave alone, they leave alone one after the other.
use Rattle.std.proofs.Common.{◌≡◌, ℕ, List, Option, Some, None, refl, ap, ◌∙◌, arith}
use Rattle.pg_files.specs.Outside.{FileMap, KeepsOthers, NoneFalls, OnlyAsks, OnlyReads, OnlyReadsAndAsks, OnlySays, OnlyWrites, OnlyWritesAndSays, Outside}

pub KeepsOthers-refl : (name : List ℕ) (files : Option FileMap) → KeepsOthers name files files
KeepsOthers-refl name None = refl
KeepsOthers-refl name (Some files) = λ other differs. refl

-- the same files keep the others
pub KeepsOthers-same : (name : List ℕ) (old new : Option FileMap) → new ≡ old → KeepsOthers name old new
KeepsOthers-same name old new same = rw same (KeepsOthers-refl name old)

pub KeepsOthers-trans : (name : List ℕ) (old mid new : Option FileMap) → KeepsOthers name old mid → KeepsOthers name mid new → KeepsOthers name old new
KeepsOthers-trans name None None new first second = second
KeepsOthers-trans name None (Some mid) new first second = cc
KeepsOthers-trans name (Some old) None new first second = absurd first
KeepsOthers-trans name (Some old) (Some mid) None first second = absurd second
KeepsOthers-trans name (Some old) (Some mid) (Some new) first second = λ other differs. second other differs ∙ first other differs

NoneFalls-trans : (old mid new : List ℕ → ℕ) → NoneFalls old mid → NoneFalls mid new → NoneFalls old new
NoneFalls-trans old mid new first second = λ name. omega (arith, first name, second name)

NoneFalls-same : (old new : List ℕ → ℕ) → new ≡ old → NoneFalls old new
NoneFalls-same old new same = λ name. omega (arith, ap (λ (counts : List ℕ → ℕ). counts name) same)

-- no call at all
pub OnlyReads-refl : (old : Outside) → OnlyReads old old
OnlyReads-refl old = record { files = refl; said = refl; read_faults = NoneFalls-same old.read_faults old.read_faults refl; write_faults = refl; ask_faults = refl; say_faults = refl }

pub OnlyReads-trans : (old mid new : Outside) → OnlyReads old mid → OnlyReads mid new → OnlyReads old new
OnlyReads-trans old mid new first second = record {
  files = second.files ∙ first.files;
  said = second.said ∙ first.said;
  read_faults = NoneFalls-trans old.read_faults mid.read_faults new.read_faults first.read_faults second.read_faults;
  write_faults = second.write_faults ∙ first.write_faults;
  ask_faults = second.ask_faults ∙ first.ask_faults;
  say_faults = second.say_faults ∙ first.say_faults;
}

pub OnlyAsks-refl : (old : Outside) → OnlyAsks old old
OnlyAsks-refl old = record { files = refl; said = refl; read_faults = refl; write_faults = refl; ask_faults = NoneFalls-same old.ask_faults old.ask_faults refl; say_faults = refl }

pub OnlyAsks-trans : (old mid new : Outside) → OnlyAsks old mid → OnlyAsks mid new → OnlyAsks old new
OnlyAsks-trans old mid new first second = record {
  files = second.files ∙ first.files;
  said = second.said ∙ first.said;
  read_faults = second.read_faults ∙ first.read_faults;
  write_faults = second.write_faults ∙ first.write_faults;
  ask_faults = NoneFalls-trans old.ask_faults mid.ask_faults new.ask_faults first.ask_faults second.ask_faults;
  say_faults = second.say_faults ∙ first.say_faults;
}

pub OnlyReadsAndAsks-refl : (old : Outside) → OnlyReadsAndAsks old old
OnlyReadsAndAsks-refl old = record { files = refl; said = refl; read_faults = NoneFalls-same old.read_faults old.read_faults refl; write_faults = refl; ask_faults = NoneFalls-same old.ask_faults old.ask_faults refl; say_faults = refl }

pub OnlyReadsAndAsks-trans : (old mid new : Outside) → OnlyReadsAndAsks old mid → OnlyReadsAndAsks mid new → OnlyReadsAndAsks old new
OnlyReadsAndAsks-trans old mid new first second = record {
  files = second.files ∙ first.files;
  said = second.said ∙ first.said;
  read_faults = NoneFalls-trans old.read_faults mid.read_faults new.read_faults first.read_faults second.read_faults;
  write_faults = second.write_faults ∙ first.write_faults;
  ask_faults = NoneFalls-trans old.ask_faults mid.ask_faults new.ask_faults first.ask_faults second.ask_faults;
  say_faults = second.say_faults ∙ first.say_faults;
}

-- reads alone are reads and asking, and so is asking alone
pub OnlyReadsAndAsks-reads : (old new : Outside) → OnlyReads old new → OnlyReadsAndAsks old new
OnlyReadsAndAsks-reads old new read = record {
  files = read.files;
  said = read.said;
  read_faults = read.read_faults;
  write_faults = read.write_faults;
  ask_faults = NoneFalls-same old.ask_faults new.ask_faults read.ask_faults;
  say_faults = read.say_faults;
}

pub OnlyReadsAndAsks-asks : (old new : Outside) → OnlyAsks old new → OnlyReadsAndAsks old new
OnlyReadsAndAsks-asks old new asked = record {
  files = asked.files;
  said = asked.said;
  read_faults = NoneFalls-same old.read_faults new.read_faults asked.read_faults;
  write_faults = asked.write_faults;
  ask_faults = asked.ask_faults;
  say_faults = asked.say_faults;
}

pub OnlyWrites-refl : (name : List ℕ) (old : Outside) → OnlyWrites name old old
OnlyWrites-refl name old = record {
  others = KeepsOthers-refl name old.files;
  said = refl;
  read_faults = refl;
  write_faults = NoneFalls-same old.write_faults old.write_faults refl;
  ask_faults = refl;
  say_faults = refl;
}

pub OnlyWrites-trans : (name : List ℕ) (old mid new : Outside) → OnlyWrites name old mid → OnlyWrites name mid new → OnlyWrites name old new
OnlyWrites-trans name old mid new first second = record {
  others = KeepsOthers-trans name old.files mid.files new.files first.others second.others;
  said = second.said ∙ first.said;
  read_faults = second.read_faults ∙ first.read_faults;
  write_faults = NoneFalls-trans old.write_faults mid.write_faults new.write_faults first.write_faults second.write_faults;
  ask_faults = second.ask_faults ∙ first.ask_faults;
  say_faults = second.say_faults ∙ first.say_faults;
}

pub OnlySays-refl : (old : Outside) → OnlySays old old
OnlySays-refl old = record { files = refl; read_faults = refl; write_faults = refl; ask_faults = refl; say_faults = omega arith }

pub OnlySays-trans : (old mid new : Outside) → OnlySays old mid → OnlySays mid new → OnlySays old new
OnlySays-trans old mid new first second = record {
  files = second.files ∙ first.files;
  read_faults = second.read_faults ∙ first.read_faults;
  write_faults = second.write_faults ∙ first.write_faults;
  ask_faults = second.ask_faults ∙ first.ask_faults;
  say_faults = omega (arith, first.say_faults, second.say_faults);
}

-- writes alone are writes and saying
pub OnlyWritesAndSays-writes : (name : List ℕ) (old new : Outside) → OnlyWrites name old new → OnlyWritesAndSays name old new
OnlyWritesAndSays-writes name old new wrote = record {
  others = wrote.others;
  read_faults = wrote.read_faults;
  write_faults = wrote.write_faults;
  ask_faults = wrote.ask_faults;
  say_faults = omega (arith, wrote.say_faults);
}

-- and so is saying after writes
pub OnlyWritesAndSays-says : (name : List ℕ) (old mid new : Outside) → OnlyWrites name old mid → OnlySays mid new → OnlyWritesAndSays name old new
OnlyWritesAndSays-says name old mid new wrote said = record {
  others = KeepsOthers-trans name old.files mid.files new.files wrote.others (KeepsOthers-same name mid.files new.files said.files);
  read_faults = said.read_faults ∙ wrote.read_faults;
  write_faults = NoneFalls-trans old.write_faults mid.write_faults new.write_faults wrote.write_faults (NoneFalls-same mid.write_faults new.write_faults said.write_faults);
  ask_faults = said.ask_faults ∙ wrote.ask_faults;
  say_faults = omega (arith, wrote.say_faults, said.say_faults);
}
