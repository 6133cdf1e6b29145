use Rattle.std.proofs.Common.{◌≡◌, ◌+◌, length}
use Rattle.std.specs.List.{range_with_len}
use Rattle.std.specs.Prelude.{map, string_bytes}
use Rattle.segments.specs.Names.{segment_name}
use Rattle.segments.proofs.names.SegmentNames.of.Given as goal

abbrev pub invariant-loop-number : goal.invariant-loop-number
invariant-loop-number l =
    (length l.further.items + 1 ≡ l.number)
    × (map string_bytes l.further.items ≡ map (segment_name l.name) (range_with_len 1 (length l.further.items)))
