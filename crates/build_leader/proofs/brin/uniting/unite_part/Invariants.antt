use Rattle.std.proofs.Common.{◌≡◌, ◌++◌, ℕ, List}
use Rattle.std.specs.Vec.Iter.{into_iter_items}
use Rattle.brin_summary.specs.declared.ranges.SummedRange.{SummedRange}
use Rattle.build_leader.specs.Tally.{AreOfColumns}
use Rattle.build_leader.specs.Uniting.{AreTold, HaveColumns}
use Rattle.build_leader.proofs.brin.uniting.unite_part.Given as goal

abbrev pub invariant-loop-summed : goal.invariant-loop-summed
invariant-loop-summed l = record {
  can_next : (goal.iterator-loop-summed).can_next l.summed-iterator;
  is_finite : (goal.iterator-loop-summed).is_finite l.summed-iterator;
  are : l.fn.part ≡ l.yielded ++ into_iter_items l.summed-iterator;
  alike : (columns : ℕ) → HaveColumns columns l.fn.known → AreOfColumns columns l.fn.part → HaveColumns columns l.known;
  told : (columns : ℕ) (ranges : List SummedRange) → AreTold columns ranges l.fn.known → AreTold columns (ranges ++ l.yielded) l.known;
}
