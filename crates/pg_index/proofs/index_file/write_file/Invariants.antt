use Rattle.std.proofs.Common.{◌≡◌, ◌-◌, ◌≤◌, length, take}
use Rattle.pg_files.specs.Outside.{OnlyWrites}
use Rattle.pg_index.specs.IndexFile.{Holds}
use Rattle.pg_index.proofs.index_file.write_file.Given as goal

abbrev pub invariant-writing : goal.invariant-writing
invariant-writing g l =
    (l.written ≤ length l.bytes)
    × Holds l.name (take l.written l.bytes) (g.F.Files.outside l.fn.files) (g.F.Files.outside l.files)
    × ((g.F.Files.outside l.files).write_faults ≡ (g.F.Files.outside l.fn.files).write_faults)
    × OnlyWrites l.name (g.F.Files.outside l.fn.files) (g.F.Files.outside l.files)

abbrev pub decreases-writing : goal.decreases-writing
decreases-writing g l = length l.bytes - l.written
