use Rattle.std.proofs.Common.{refl, arith}
use Rattle.brin_summary.proofs.Headers.{determined, few-halves, halves-few}
use Rattle.brin_summary.proofs.tuple_head.TupleHead.in_front.Goals as goal

pub returns-then-bytes-lt-FIXED_SIZE-clause-none :
    goal.returns-then-bytes-lt-FIXED_SIZE-clause-none
returns-then-bytes-lt-FIXED_SIZE-clause-none c = λ none header has.
    let only = determined c.args.columns header c.args.bytes.now c.requires.columns has in
    let short = c.if-bytes-lt-FIXED_SIZE.true in
    omega (arith, only.long)

pub returns-in_err-bits-clause-none : goal.returns-in_err-bits-clause-none
returns-in_err-bits-clause-none c = λ none header has.
    let only = determined c.args.columns header c.args.bytes.now c.requires.columns has in
    let room = only.room (c.in_err-bits.ensures.set refl) in
    let short = c.in_err-bits.ensures.short refl in
    omega arith

pub returns-then-bits-columns-ne0-clause-none : goal.returns-then-bits-columns-ne0-clause-none
returns-then-bits-columns-ne0-clause-none c = λ none header has.
    let only = determined c.args.columns header c.args.bytes.now c.requires.columns has in
    let same = c.in_ok-bits.ensures.value in
    c.if-bits-columns-ne0.true (few-halves c.in_ok-bits.bits c.args.columns (let few = only.few in omega arith))

pub returns-clause-few : goal.returns-clause-few
returns-clause-few c = halves-few c.in_ok-bits.bits c.args.columns c.if-bits-columns-ne0.false
