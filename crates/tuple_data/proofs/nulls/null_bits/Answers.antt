use Rattle.std.proofs.Common.{arith}
use Rattle.tuple_data.specs.Nulls.{is_null}
use Rattle.tuple_data.proofs.NullBits.{bit-most, null_bits-room}
use Rattle.tuple_data.proofs.nulls.null_bits.Goals as goal

pub overflow_mul-bits : goal.overflow_mul-bits
overflow_mul-bits c =
    let room = null_bits-room c.args.values.now c.loop-at.at c.loop-at-test.true c.loop-at.auto.at c.requires in
    let bits = c.loop-at.invariant in
    omega arith

pub overflow_add-bits : goal.overflow_add-bits
overflow_add-bits c =
    let room = null_bits-room c.args.values.now c.loop-at.at c.loop-at-test.true c.loop-at.auto.at c.requires in
    let bits = c.loop-at.invariant in
    let bit = bit-most (is_null c.index-values-at.result) in
    omega (arith, c.bit_of.ensures)
