use Rattle.std.proofs.Common.{◌↔◌, length}
use Rattle.posting_tree.specs.Segments.{AreAscending}
use Rattle.value_tests.proofs.postings.are_ascending.Given as goal

abbrev pub invariant-loop-left : goal.invariant-loop-left
invariant-loop-left l = AreAscending l.left ↔ AreAscending l.ptrs

abbrev pub decreases-loop-left : goal.decreases-loop-left
decreases-loop-left l = length l.left
