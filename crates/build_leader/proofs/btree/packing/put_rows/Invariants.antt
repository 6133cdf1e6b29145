use Rattle.std.proofs.Common.{◌≡◌, length}
use Rattle.build_leader.specs.Pass.{AreComing}
use Rattle.build_leader.proofs.btree.packing.put_rows.Given as goal

abbrev pub invariant-rows : goal.invariant-rows
invariant-rows g l = record {
  order : l.merge.order ≡ l.fn.merge.order;
  coming :
      AreComing g.P.RowPacker.has l.spec (g.P.RowPacker.kinds l.fn.packer) l.fn.merge.order l.fn.merge.left l.merge.left
      l.packer l.held;
}

abbrev pub decreases-rows : goal.decreases-rows
decreases-rows g l = length l.merge.left
