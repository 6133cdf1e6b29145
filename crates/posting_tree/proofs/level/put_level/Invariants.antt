use Rattle.std.proofs.Common.{◌≡◌, ◌+◌, ◌*◌, ◌<◌, length}
use Rattle.pg_bytes.specs.PageLayout.{page_size}
use Rattle.posting_tree.proofs.InnerSteps.{InnerTaken}
use Rattle.posting_tree.specs.PostingTree.{Extends}
use Rattle.posting_tree.proofs.level.put_level.Given as goal

abbrev pub invariant-loop-left : goal.invariant-loop-left
invariant-loop-left l = record {
  taken : InnerTaken l.fn.image l.image l.level.first l.level.keys.items l.below.first l.below.keys.items l.child l.left;
  size : length l.image ≡ (l.level.first + length l.level.keys.items) * page_size;
  first : l.level.first ≡ l.below.first + length l.below.keys.items;
  some : 0 < length l.left;
  extends : Extends l.fn.image l.image;
}

abbrev pub decreases-loop-left : goal.decreases-loop-left
decreases-loop-left l = length l.left
