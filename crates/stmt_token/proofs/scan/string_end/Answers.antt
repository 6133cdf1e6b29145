use Rattle.std.proofs.Common.{◌≡◌, ◌≢◌, ◌+◌, get_or, arith}
use Rattle.std.proofs.lemmas.Bool.Decides.{nat_tests}
use Rattle.stmt_token.proofs.Strings.{passes_other, passes_doubled}
use Rattle.stmt_token.proofs.scan.string_end.Goals as goal

pub loop-at-preserved-then-inside-at-ne39 : goal.loop-at-preserved-then-inside-at-ne39
loop-at-preserved-then-inside-at-ne39 c =
    let other : get_or c.args.inside.now c.loop-at.at 0 ≢ 39 = λ e. grind (arith, nat_tests) in
    record {
      within = omega arith;
      found = passes_other c.args.inside.now c.loop-at.at c.loop-at-test.true other c.loop-at.invariant.found;
    }

pub loop-at-preserved : goal.loop-at-preserved
loop-at-preserved c =
    let first : get_or c.args.inside.now c.loop-at.at 0 ≡ 39 = grind (arith, nat_tests) in
    let second : get_or c.args.inside.now (c.loop-at.at + 1) 0 ≡ 39 = grind (arith, nat_tests) in
    record {
      within = omega arith;
      found = passes_doubled c.args.inside.now c.loop-at.at c.if-at-inside.true first second c.loop-at.invariant.found;
    }
