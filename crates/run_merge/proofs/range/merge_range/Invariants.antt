use Rattle.std.proofs.Common.{◌≡◌, length}
use Rattle.run_merge.specs.Cutting.{part_of}
use Rattle.run_merge.specs.Heads.{AreHeads, left_of}
use Rattle.run_merge.specs.Pass.{AreMerged}
use Rattle.run_merge.specs.Sorted.{AllHaveOrder, all_records}
use Rattle.run_merge.proofs.range.merge_range.Given as goal

abbrev pub invariant-loop-heads : goal.invariant-loop-heads
invariant-loop-heads l = record {
  have : AllHaveOrder l.order l.tapes;
  heads : AreHeads l.tapes l.heads.items;
  order : l.run.order ≡ l.order;
  merged : AreMerged l.order (part_of l.order l.cuts l.part (all_records l.tapes)) l.run.records
      (left_of l.tapes l.heads.items);
}

abbrev pub decreases-loop-heads : goal.decreases-loop-heads
decreases-loop-heads l = length (left_of l.tapes l.heads.items)
