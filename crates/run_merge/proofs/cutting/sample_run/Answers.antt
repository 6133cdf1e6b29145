use Rattle.std.proofs.Common.{◌*◌, ◌≤◌, ◌++◌, ◌∙◌, ap, arith, length}
use Rattle.run_merge.specs.Pass.{bytes_of, bytes_sampled}
use Rattle.run_merge.proofs.Shares.{bytes_of-push, length-bytes_sampled, sampled_all, sampled_more}
use Rattle.run_merge.proofs.cutting.sample_run.Goals as goal

pub loop-number-preserved : goal.loop-number-preserved
loop-number-preserved c =
    ap bytes_of c.in_ok-push.ensures.items ∙ bytes_of-push c.loop-number.samples.items c.sample_at.result
    ∙ sampled_more (bytes_sampled c.args.sampled c.args.run.now) (bytes_of c.args.samples.now.items)
    (bytes_of c.loop-number.samples.items) c.loop-number.number c.sample_at.result.now
    c.loop-number.invariant c.sample_at.ensures

pub returns : goal.returns
returns c =
    let bytes = bytes_sampled c.args.sampled c.args.run.now in
    let long = length-bytes_sampled c.args.sampled c.args.run.now in
    let far : length bytes ≤ c.loop-number.number * 64 = omega (arith, long) in
    let near : c.loop-number.number ≤ length bytes = omega (arith, long) in
    c.loop-number.invariant ∙ ap (λ l. bytes_of c.args.samples.now.items ++ l)
    (sampled_all bytes c.loop-number.number far near)
