use Rattle.std.proofs.Common.{◌≡◌, ◌-◌, ◌≤◌, length, take}
use Rattle.pg_files.specs.Outside.{OnlyWrites}
use Rattle.segments.proofs.FileWrites.{Holds}
use Rattle.segments.proofs.segment_writing.write_segment.Given as goal

abbrev pub invariant-writing : goal.invariant-writing
invariant-writing g l =
    (l.written ≤ length l.part)
    × Holds l.name (take l.written l.part) (g.F.Files.outside l.fn.files) (g.F.Files.outside l.files)
    × ((g.F.Files.outside l.files).write_faults ≡ (g.F.Files.outside l.fn.files).write_faults)
    × OnlyWrites l.name (g.F.Files.outside l.fn.files) (g.F.Files.outside l.files)

abbrev pub decreases-writing : goal.decreases-writing
decreases-writing g l = length l.part - l.written
