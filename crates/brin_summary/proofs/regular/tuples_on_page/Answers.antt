use Rattle.std.proofs.Common.{arith}
use Rattle.brin_summary.proofs.Cutting.{broken-counted, front-few, whole-counted}
use Rattle.brin_summary.proofs.regular.tuples_on_page.Goals as goal

pub overflow_cast-result : goal.overflow_cast-result
overflow_cast-result c =
    let inside = c.loop-count-test.true in
    let few = front-few c.args.sizes.now c.loop-count.count c.loop-count.taken (omega arith) c.loop-count.invariant in
    omega arith

pub returns-then-taken-gt-PAGE_ROOM-clause-count : goal.returns-then-taken-gt-PAGE_ROOM-clause-count
returns-then-taken-gt-PAGE_ROOM-clause-count c =
    let over = c.if-taken-gt-PAGE_ROOM.true in
    broken-counted c.args.sizes.now c.loop-count.count c.loop-count.taken c.loop-count-test.true c.loop-count.invariant c.requires.fit
    (omega (arith, c.from.ensures))

pub returns-then-taken-gt-PAGE_ROOM-clause-few : goal.returns-then-taken-gt-PAGE_ROOM-clause-few
returns-then-taken-gt-PAGE_ROOM-clause-few c =
    let inside = c.loop-count-test.true in
    let few = front-few c.args.sizes.now c.loop-count.count c.loop-count.taken (omega arith) c.loop-count.invariant in
    omega arith

pub overflow_cast-result-2 : goal.overflow_cast-result-2
overflow_cast-result-2 c =
    let end = c.loop-count.auto.count-end in
    let done = c.loop-count-test.false in
    let few = front-few c.args.sizes.now c.loop-count.count c.loop-count.taken end c.loop-count.invariant in
    omega arith

pub returns-clause-count : goal.returns-clause-count
returns-clause-count c =
    let end = c.loop-count.auto.count-end in
    let done = c.loop-count-test.false in
    whole-counted c.args.sizes.now c.loop-count.count c.loop-count.taken c.requires.some (omega arith) c.loop-count.invariant

pub returns-clause-few : goal.returns-clause-few
returns-clause-few c =
    let end = c.loop-count.auto.count-end in
    let done = c.loop-count-test.false in
    let few = front-few c.args.sizes.now c.loop-count.count c.loop-count.taken end c.loop-count.invariant in
    omega arith
