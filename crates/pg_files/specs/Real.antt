-- What real files tell: how many calls of each kind failed, whatever the name.
use Rattle.std.specs.Prelude.{ℕ, None}
use Rattle.pg_files.specs.Outside.{Outside}

pub record FaultCounts : Type 0 where
  pub reads : ℕ
  pub writes : ℕ
  pub asks : ℕ
  pub says : ℕ

abbrev pub no_faults : FaultCounts
no_faults = record { reads = 0; writes = 0; asks = 0; says = 0 }

-- the same as the trait `Files` sees it: nothing is told of files and of what was said
abbrev pub outside_of_counts : FaultCounts → Outside
outside_of_counts counts = record {
  files = None;
  said = None;
  read_faults = λ name. counts.reads;
  write_faults = λ name. counts.writes;
  ask_faults = λ name. counts.asks;
  say_faults = counts.says;
}
