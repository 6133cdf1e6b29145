use Rattle.std.proofs.Common.{length}
use Rattle.posting_tree.specs.Pass.{SegmentsLead}
use Rattle.posting_tree.proofs.decoding.decode.Given as goal

abbrev pub invariant-loop-left : goal.invariant-loop-left
invariant-loop-left l = SegmentsLead 0 l.bytes l.last l.left l.ptrs.items

abbrev pub decreases-loop-left : goal.decreases-loop-left
decreases-loop-left l = length l.left
