use Rattle.std.proofs.Common.{◌≡◌, ◌+◌, ◌*◌, ◌^◌, ◌≤◌, ◌<◌, length}
use Rattle.pg_bytes.specs.Blocks.{block_count}
use Rattle.pg_bytes.specs.PageLayout.{page_size}
use Rattle.posting_tree.specs.Building.{TreePut}
use Rattle.posting_tree.specs.PostingTree.{Extends}
use Rattle.posting_tree.specs.Segments.{HaveBlocks}
use Rattle.posting_tree.proofs.tree.build_tree.Given as goal

abbrev pub invariant-loop-alloc : goal.invariant-loop-alloc
invariant-loop-alloc l = record {
  put : TreePut l.fn.image l.image l.level.first l.level.keys.items l.ptrs;
  started : block_count l.fn.image * page_size ≡ length l.fn.image;
  size : length l.image ≡ (l.level.first + length l.level.keys.items) * page_size;
  some : 0 < length l.level.keys.items;
  few : l.level.first + 2 * length l.level.keys.items ≤ 2 ^ 31;
  have_blocks : HaveBlocks l.ptrs;
  extends : Extends l.fn.image l.image;
}

abbrev pub decreases-loop-alloc : goal.decreases-loop-alloc
decreases-loop-alloc l = length l.level.keys.items
