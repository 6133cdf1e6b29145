use Rattle.std.proofs.Common.{◌≡◌, ◌+◌, ◌<◌, ◌^◌, take}
use Rattle.shared_tape.specs.Runs.{record_count}
use Rattle.build_leader.proofs.gin.count.with_tape.Given as goal

abbrev pub invariant-loop-run : goal.invariant-loop-run
invariant-loop-run l = record {
  count_is : l.count ≡ l.before + record_count (take l.run l.tape);
  few : l.count < 2 ^ 30;
}
