use Rattle.std.proofs.Common.{◌≡◌, ◌<◌, false, length, slice_index}
use Rattle.opclass.proofs.Reading.{unmarked, with_front}
use Rattle.opclass.proofs.reader.read_marked.Given as goal

abbrev pub invariant-loop-left : goal.invariant-loop-left
invariant-loop-left l =
    (unmarked l.mark false l.fn.bytes ≡ with_front l.inside.items (unmarked l.mark false l.left)) × (0 < length l.left → slice_index l.left 0 ≡ l.mark)

abbrev pub decreases-loop-left : goal.decreases-loop-left
decreases-loop-left l = length l.left
