use Rattle.std.proofs.Common.{◌≡◌, ◌<◌, length}
use Rattle.pg_files.specs.Outside.{OnlyReadsAndAsks}
use Rattle.segments.specs.Limits.{segment_bytes}
use Rattle.segments.proofs.SeriesReads.{IsSoFar}
use Rattle.segments.specs.Reading.{IsToRead}
use Rattle.segments.specs.Told.{OnTold}
use Rattle.segments.proofs.reading.read_series.Given as goal

abbrev pub invariant-loop-number : goal.invariant-loop-number
invariant-loop-number g l =
    OnlyReadsAndAsks (g.F.Files.outside l.initial.files) (g.F.Files.outside l.files)
    × ((g.F.Files.outside l.files).read_faults ≡ (g.F.Files.outside l.initial.files).read_faults)
    × ((g.F.Files.outside l.files).ask_faults ≡ (g.F.Files.outside l.initial.files).ask_faults)
    × (0 < length l.buffer.items)
    × OnTold (g.F.Files.outside l.initial.files).files (IsSoFar (segment_bytes l.limits) l.name l.number l.bytes.items)
    × IsToRead (g.F.Files.outside l.initial.files).files l.name l.number
