use Rattle.std.proofs.Common.{arith}
use Rattle.tuple_data.specs.Reading.{value_of}
use Rattle.tuple_data.proofs.InPlaceLemmas.{not_past, skipped, value_got}
use Rattle.tuple_data.proofs.values.Values.get.Goals as goal

pub loop-preserved : goal.loop-preserved
loop-preserved c = skipped c.take_first.result c.args.self.now c.loop.left c.take_first.new.self c.loop.counter c.loop.invariant c.take_first.ensures

pub unreachable-requires : goal.unreachable-requires
unreachable-requires c =
    not_past c.args.self.now c.loop.left c.loop.counter c.args.at c.loop.invariant c.loop.auto.counter-end c.requires (c.in-None.ensures).0

pub returns : goal.returns
returns c =
    let here = c.loop.auto.counter-end in
    let there = c.loop-test.false in
    value_got c.args.self.now c.loop.left c.take_first-2.new.self c.loop.counter c.args.at (value_of c.in-Some.value) c.loop.invariant
    (omega (arith, here, there)) c.requires c.in-Some.ensures
