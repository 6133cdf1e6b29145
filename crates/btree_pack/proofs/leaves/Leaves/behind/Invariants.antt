use Rattle.btree_pack.proofs.LeafBuffer.{Counted}
use Rattle.btree_pack.proofs.leaves.Leaves.behind.Given as goal

abbrev pub invariant-loop-size : goal.invariant-loop-size
invariant-loop-size l = Counted l.fn.place l.behind l.sizes l.size-index
