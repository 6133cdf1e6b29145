use Rattle.std.proofs.Common.{◌≡◌, ◌++◌, ◌+◌, ◌≤◌, length, map, take}
use Rattle.std.specs.Prelude.{vec_capacity, vec_len}
use Rattle.btree_pack.specs.declared.leaves.LeafSize.{LeafSize}
use Rattle.btree_pack.proofs.tuples.push_sizes.Given as goal

abbrev pub invariant-loop-size : goal.invariant-loop-size
invariant-loop-size l = record {
  items : l.all.items ≡ l.fn.all.items ++ map (λ (size : LeafSize). size.tuple) (take l.size-index l.sizes);
  room : vec_len l.all + length l.sizes ≤ vec_capacity l.all + l.size-index;
}
