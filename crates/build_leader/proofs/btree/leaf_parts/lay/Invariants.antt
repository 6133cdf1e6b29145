use Rattle.std.specs.Vec.Iter.{into_iter_items}
use Rattle.build_leader.specs.IndexRow.{index_kinds}
use Rattle.build_leader.proofs.LeafRuns.{AreAdded}
use Rattle.build_leader.proofs.btree.leaf_parts.lay.Given as goal

abbrev pub invariant-loop-run : goal.invariant-loop-run
invariant-loop-run l = record {
  can_next : (goal.iterator-loop-run).can_next l.run-iterator;
  is_finite : (goal.iterator-loop-run).is_finite l.run-iterator;
  added :
      AreAdded l.fn.plan.spec (index_kinds l.fn.plan.table l.fn.plan.spec) l.fn.runs.items
      (into_iter_items l.run-iterator) l.packer;
}
