use Rattle.std.proofs.Common.{ap, length, arith}
use Rattle.std.proofs.lemmas.List.Sums.{sum_by_more, sum_by_more_le}
use Rattle.std.proofs.lemmas.Option.{get_or_from_slice_get, slice_get_within}
use Rattle.shared_tape.specs.Runs.{RunView}
use Rattle.run_merge.specs.Heads.{no_run}
use Rattle.build_leader.proofs.gin.count.with_tape.Goals as goal

pub returns-in_err-count : goal.returns-in_err-count
returns-in_err-count c =
    let tape = c.args.tape.now in
    let n = c.loop-run.run in
    let run = c.run.result.now in
    let count = λ (run : RunView). length run.records in
    let here = ap count (get_or_from_slice_get tape n run no_run c.run.ensures) in
    let more = sum_by_more_le count tape n no_run (slice_get_within tape n run c.run.ensures) in
    let said = c.in_err-count.ensures in
    rw c.from_residual.ensures (omega (arith, here, more, said, c.len.ensures.length))

pub loop-run-preserved : goal.loop-run-preserved
loop-run-preserved c =
    let tape = c.args.tape.now in
    let n = c.loop-run.run in
    let run = c.run.result.now in
    let count = λ (run : RunView). length run.records in
    let here = ap count (get_or_from_slice_get tape n run no_run c.run.ensures) in
    let more = sum_by_more count tape n no_run (slice_get_within tape n run c.run.ensures) in
    let said = c.in_ok-count.ensures in
    record {
      count_is = omega (arith, here, more, said.0, c.len.ensures.length);
      few = said.1;
    }
