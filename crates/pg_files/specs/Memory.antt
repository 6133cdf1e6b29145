-- Files in memory, as callers see them.
use Rattle.std.specs.Prelude.{◌≡◌, ℕ, ◌+◌, ◌-◌, ◌^◌, ◌++◌, min, List, [], take, drop, length, Option, None, Some, Bool, nat_eq, cond}
use Rattle.std.specs.List.{list_any}
use Rattle.pg_files.specs.Faults.{raised}
use Rattle.pg_files.specs.NamedFiles.{file_map}
use Rattle.pg_files.specs.Outside.{FileMap, Outside}
use Rattle.pg_files.specs.declared.mem_files.MemFiles.{MemFiles}

-- all that files in memory tell
pub record Memory : Type 0 where
  -- the bytes of each file
  pub files : FileMap
  -- the bytes said so far
  pub said : List ℕ
  -- the numbers of the calls that are set to fail
  pub failing : List ℕ
  -- how many bytes a read or an append moves at most
  pub most : ℕ
  -- how many calls were made
  pub calls : ℕ
  -- how many of each kind failed
  pub read_faults : ℕ
  pub write_faults : ℕ
  pub ask_faults : ℕ
  pub say_faults : ℕ
  -- how many failed for want of memory
  pub refused : ℕ

abbrev pub memory : MemFiles → Memory
memory m = record {
  files = file_map m.files.items;
  said = m.said.items;
  failing = m.failing.items;
  most = m.beyond_one + 1;
  calls = m.calls;
  read_faults = m.read_faults;
  write_faults = m.write_faults;
  ask_faults = m.ask_faults;
  say_faults = m.say_faults;
  refused = m.refused;
}

-- the same as the trait `Files` shows it, with one count of each kind for all names
abbrev pub outside_of : Memory → Outside
outside_of m = record {
  files = Some m.files;
  said = Some m.said;
  read_faults = λ name. m.read_faults;
  write_faults = λ name. m.write_faults;
  ask_faults = λ name. m.ask_faults;
  say_faults = m.say_faults;
}

-- no files, nothing counted, and no bound on what a call moves
abbrev pub fresh : Memory
fresh = record {
  files = λ _. None;
  said = [];
  failing = [];
  most = 2 ^ 64;
  calls = 0;
  read_faults = 0;
  write_faults = 0;
  ask_faults = 0;
  say_faults = 0;
  refused = 0;
}

-- other files, and all else as it is
abbrev pub with_files : FileMap → Memory → Memory
with_files files m = record m { files = files }

-- whether the next call is set to fail
abbrev pub is_set_to_fail : Memory → Bool
is_set_to_fail m = list_any (λ (call : ℕ). nat_eq call (raised m.calls)) m.failing

-- after one more call
abbrev pub called : Memory → Memory
called m = record m { calls = raised m.calls }

-- one more failure of each kind
abbrev pub with_read_fault : Memory → Memory
with_read_fault m = record m { read_faults = raised m.read_faults }

abbrev pub with_write_fault : Memory → Memory
with_write_fault m = record m { write_faults = raised m.write_faults }

abbrev pub with_ask_fault : Memory → Memory
with_ask_fault m = record m { ask_faults = raised m.ask_faults }

abbrev pub with_say_fault : Memory → Memory
with_say_fault m = record m { say_faults = raised m.say_faults }

-- one more call that found no memory
abbrev pub with_refusal : Memory → Memory
with_refusal m = record m { refused = raised m.refused }

-- a call that takes memory and failed: it was set to fail, or found none
abbrev pub refused_unless_set : Memory → Memory
refused_unless_set m = cond (is_set_to_fail m) (called m) (with_refusal (called m))

-- how many bytes of a file a read gives from a place on: as many as there are, as fit, and as it moves at most
abbrev pub read_count : ℕ → List ℕ → ℕ → List ℕ → ℕ
read_count most bytes place buffer = min most (min (length buffer) (length bytes - place))

-- the buffer after such a read, as before behind what came
abbrev pub read_over : ℕ → List ℕ → ℕ → List ℕ → List ℕ
read_over most bytes place buffer =
    take (read_count most bytes place buffer) (drop place bytes) ++ drop (read_count most bytes place buffer) buffer

-- a read of a file that is there gives all that fits and that it moves
abbrev pub GivesAllThatFits : ℕ → Option (List ℕ) → ℕ → ℕ → List ℕ → List ℕ → Type 0
GivesAllThatFits most None place count old new = ⊥
GivesAllThatFits most (Some bytes) place count old new =
    (count ≡ read_count most bytes place old) × (new ≡ read_over most bytes place old)
