use Rattle.std.proofs.Common.{◌≡◌, ◌-◌, ◌+◌, length}
use Rattle.pg_files.specs.Outside.{OnlyReads}
use Rattle.segments.proofs.FileReads.{HasRead}
use Rattle.segments.proofs.segment_reading.read_segment.Given as goal

abbrev pub invariant-reading : goal.invariant-reading
invariant-reading g l =
    OnlyReads (g.F.Files.outside l.initial.files) (g.F.Files.outside l.files)
    × ((g.F.Files.outside l.files).read_faults ≡ (g.F.Files.outside l.initial.files).read_faults)
    × (length l.buffer ≡ length l.initial.buffer)
    × HasRead (g.F.Files.outside l.initial.files).files l.name l.initial.bytes.items l.count l.bytes.items

abbrev pub decreases-reading : goal.decreases-reading
decreases-reading g l = l.size + 1 - l.count
