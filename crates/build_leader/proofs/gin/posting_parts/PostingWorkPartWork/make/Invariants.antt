use Rattle.std.proofs.Common.{length}
use Rattle.run_merge.specs.Cutting.{part_of}
use Rattle.run_merge.specs.Sorted.{all_records}
use Rattle.build_leader.proofs.PostingRuns.{AreGathered}
use Rattle.build_leader.proofs.gin.posting_parts.PostingWorkPartWork.make.Given as goal

abbrev pub invariant-records : goal.invariant-records
invariant-records l =
    AreGathered l.fn.self.kind l.fn.order (part_of l.fn.order l.fn.cuts l.fn.part (all_records l.fn.tapes)) l.merge l.writer

abbrev pub decreases-records : goal.decreases-records
decreases-records l = length l.merge.left
