use Rattle.std.proofs.Common.{List, ℕ, ap, slice_index}
use Rattle.tuple_data.proofs.ReadContent.{next_zero}
use Rattle.tuple_data.proofs.content.past_zeros.Goals as goal

pub returns-then-byte-ne0 : goal.returns-then-byte-ne0
returns-then-byte-ne0 c rest whole =
    let next = next_zero c.args.bytes.now c.loop.rest.now rest c.loop.counter c.args.count c.loop-test.true c.loop.invariant.passed whole in
    c.if-byte-ne0.true (ap (λ (b : List ℕ). slice_index b 0) next)
