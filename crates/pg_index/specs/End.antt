-- How a command ends.
use Rattle.std.specs.Prelude.{◌≡◌, Option}
use Rattle.pg_index.specs.Answer.{status_of}
use Rattle.pg_index.specs.Run.{Told}
use Rattle.pg_index.specs.declared.ended.Ended.{Ended}
use Rattle.pg_index.specs.declared.fault.Fault.{Fault}

-- what an end tells beside its fault
abbrev pub told_by : Ended → Told
told_by end = record { rows = end.rows; blocks = end.blocks; claims = end.claims }

-- the end with this fault or none, that tells this
pub record IsEnd (fault : Option Fault) (told : Told) (end : Ended) : Type 0 where
  pub status : end.status ≡ status_of fault
  pub fault_told : end.fault ≡ fault
  pub told_is : told_by end ≡ told
