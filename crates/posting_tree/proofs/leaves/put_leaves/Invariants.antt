use Rattle.std.proofs.Common.{◌≡◌, ◌+◌, ◌*◌, ◌≤◌, ◌<◌, length}
use Rattle.pg_bytes.specs.PageLayout.{page_size}
use Rattle.posting_tree.proofs.LeafSteps.{LeavesTaken}
use Rattle.posting_tree.specs.PostingTree.{Extends}
use Rattle.posting_tree.proofs.leaves.put_leaves.Given as goal

abbrev pub invariant-loop-left : goal.invariant-loop-left
invariant-loop-left l = record {
  taken : LeavesTaken l.fn.image l.image l.leaves.level.first l.leaves.level.keys.items l.leaves.content.items l.leaves.last l.ptrs l.left;
  size : length l.image ≡ (l.leaves.level.first + length l.leaves.level.keys.items) * page_size;
  first : l.leaves.level.first * page_size ≡ length l.fn.image;
  content : length l.leaves.content.items ≤ 8152;
  some : length l.left < length l.ptrs → 0 < length l.leaves.content.items;
  extends : Extends l.fn.image l.image;
}

abbrev pub decreases-loop-left : goal.decreases-loop-left
decreases-loop-left l = length l.left
