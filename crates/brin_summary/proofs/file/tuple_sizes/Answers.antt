use Rattle.brin_summary.proofs.Files.{none-wide, wide-here}
use Rattle.brin_summary.proofs.file.tuple_sizes.Goals as goal

pub returns-then-size-gt-TUPLE_MOST-clause-wide : goal.returns-then-size-gt-TUPLE_MOST-clause-wide
returns-then-size-gt-TUPLE_MOST-clause-wide c =
    wide-here c.args.kinds.now c.args.ranges.now c.loop-range.range c.index-ranges-range.result c.tuple_size-size.result c.loop-range-test.true
    c.index-ranges-range.is c.tuple_size-size.ensures c.if-size-gt-TUPLE_MOST.true c.loop-range.invariant.wide

pub returns-clause-fit : goal.returns-clause-fit
returns-clause-fit c = none-wide c.args.kinds.now c.args.ranges.now c.loop-range.range c.loop-range-test.false c.loop-range.invariant.wide
