use Rattle.std.proofs.Common.{take}
use Rattle.run_merge.specs.Sorted.{all_records}
use Rattle.build_leader.specs.Gin.{CountsRecords}
use Rattle.build_leader.proofs.gin.count.count_records.Given as goal

abbrev pub invariant-loop-tape : goal.invariant-loop-tape
invariant-loop-tape l = CountsRecords (all_records (take l.tape l.tapes)) l.count
