-- Faults of the outside, and the counts that tell of them. A count never falls, and stops at 2 ^ 64 - 1.
use Rattle.std.specs.Prelude.{◌≡◌, ◌⊎◌, ◌↔◌, ℕ, ◌+◌, ◌-◌, ◌^◌, min, ◌<◌, ◌≤◌, List, Result, IsErr, IsOk}
use Rattle.pg_files.specs.Outside.{Outside}
use Rattle.pg_files.specs.declared.files.Failed.{Failed}

-- where a count stops
abbrev pub most_faults : ℕ
most_faults = 2 ^ 64 - 1

-- a count after one more
abbrev pub raised : ℕ → ℕ
raised n = min (n + 1) most_faults

-- one call: its failure raises the count, and nothing else does
pub record CountsFailure {T : Type 0} (result : Result T Failed) (old new : ℕ) : Type 0 where
  pub raised : IsErr result → old < most_faults → old < new
  pub kept : IsOk result → new ≡ old

-- the same for a count of each name: a failure raises that of the call's name, and may raise others
pub record CountsFailureOf {T : Type 0} (name : List ℕ) (result : Result T Failed) (old new : List ℕ → ℕ) : Type 0 where
  pub raised : IsErr result → old name < most_faults → old name < new name
  pub kept : IsOk result → new ≡ old

-- a read counts its failure
abbrev pub CountsReadFailure : {T : Type 0} → List ℕ → Result T Failed → Outside → Outside → Type 0
CountsReadFailure name result old new = CountsFailureOf name result old.read_faults new.read_faults

-- making or growing a file counts its failure
abbrev pub CountsWriteFailure : {T : Type 0} → List ℕ → Result T Failed → Outside → Outside → Type 0
CountsWriteFailure name result old new = CountsFailureOf name result old.write_faults new.write_faults

-- asking for a file counts its failure
abbrev pub CountsAskFailure : {T : Type 0} → List ℕ → Result T Failed → Outside → Outside → Type 0
CountsAskFailure name result old new = CountsFailureOf name result old.ask_faults new.ask_faults

-- saying counts its failure
abbrev pub CountsSayFailure : {T : Type 0} → Result T Failed → Outside → Outside → Type 0
CountsSayFailure result old new = CountsFailure result old.say_faults new.say_faults

-- An answer comes exactly where reading a file failed: this answer only with a fault, and each fault with this answer.
-- Nothing is said of a count that had stopped before.
pub record IsAnswerToReadFaults (answer : Type 0) (name : List ℕ) (old new : Outside) : Type 0 where
  pub later : old.read_faults name ≤ new.read_faults name
  pub exact : old.read_faults name < most_faults → answer ↔ (old.read_faults name < new.read_faults name)

-- The same of writing a file and of saying: either gives a right to the answer.
pub record IsAnswerToOutputFaults (answer : Type 0) (name : List ℕ) (old new : Outside) : Type 0 where
  pub write_later : old.write_faults name ≤ new.write_faults name
  pub say_later : old.say_faults ≤ new.say_faults
  pub exact : old.write_faults name < most_faults → old.say_faults < most_faults
      → answer ↔ ((old.write_faults name < new.write_faults name) ⊎ (old.say_faults < new.say_faults))
