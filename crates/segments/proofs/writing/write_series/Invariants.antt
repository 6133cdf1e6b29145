use Rattle.std.proofs.Common.{◌≡◌}
use Rattle.segments.specs.Limits.{segment_bytes}
use Rattle.segments.specs.Writing.{OnlyWritesSeries, ToldHaveParts}
use Rattle.segments.proofs.writing.write_series.Given as goal

abbrev pub invariant-loop-number : goal.invariant-loop-number
invariant-loop-number g l =
    ToldHaveParts (segment_bytes l.fn.limits) l.names.name l.image l.number (g.F.Files.outside l.initial.files).files (g.F.Files.outside l.files).files
    × ((g.F.Files.outside l.files).write_faults ≡ (g.F.Files.outside l.initial.files).write_faults)
    × (l.size ≡ segment_bytes l.fn.limits)
    × OnlyWritesSeries l.names.name (g.F.Files.outside l.initial.files) (g.F.Files.outside l.files)
