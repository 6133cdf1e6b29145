use Rattle.std.proofs.Common.{arith}
use Rattle.run_merge.specs.Pass.{bytes_of}
use Rattle.run_merge.proofs.Shares.{shares_ascend}
use Rattle.run_merge.proofs.cutting.choose_cuts.Goals as goal

pub of-requires-clause-ascending : goal.of-requires-clause-ascending
of-requires-clause-ascending c =
    shares_ascend (bytes_of c.args.samples.now) c.args.parts c.loop-number.cuts c.requires.ascending
    (record { count = omega arith; each = c.loop-number.invariant.each })
