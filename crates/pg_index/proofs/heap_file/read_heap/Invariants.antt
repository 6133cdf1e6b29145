use Rattle.std.proofs.Common.{◌≡◌, ◌-◌, ◌+◌, ◌<◌, length}
use Rattle.pg_files.specs.Outside.{OnlyReads}
use Rattle.pg_index.proofs.ReadOn.{HasFront}
use Rattle.build_leader.specs.Blocks.{most_bytes}
use Rattle.pg_index.proofs.heap_file.read_heap.Given as goal

abbrev pub invariant-reading : goal.invariant-reading
invariant-reading g l =
    OnlyReads (g.F.Files.outside l.initial.files) (g.F.Files.outside l.files)
    × ((g.F.Files.outside l.files).read_faults ≡ (g.F.Files.outside l.initial.files).read_faults)
    × HasFront (g.F.Files.outside l.initial.files).files l.name l.heap.items
    × (0 < length l.buffer.items)

abbrev pub decreases-reading : goal.decreases-reading
decreases-reading g l = most_bytes + 1 - length l.heap.items
