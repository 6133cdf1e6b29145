use Rattle.std.proofs.Common.{◌<◌, length, ◌∙◌, arith}
use Rattle.std.proofs.lemmas.Bool.Decides.{nat_tests}
use Rattle.brin_summary.proofs.TuplePages.{all-put, more-put, next-fit, next-room}
use Rattle.brin_summary.proofs.regular.put_tuples.Goals as goal

pub regular_page-requires-clause-fit : goal.regular_page-requires-clause-fit
regular_page-requires-clause-fit c =
    next-fit c.args.kinds.now c.args.pages_per_range c.args.ranges.now c.args.sizes.now c.args.image.now c.loop-left.first c.loop-left.left.now
    c.loop-left.sizes.now c.loop-left.image c.loop-left.invariant c.from-count.result

pub regular_page-requires-clause-room : goal.regular_page-requires-clause-room
regular_page-requires-clause-room c =
    next-room c.args.kinds.now c.args.pages_per_range c.args.ranges.now c.args.sizes.now c.args.image.now c.loop-left.first c.loop-left.left.now
    c.loop-left.sizes.now c.loop-left.image c.loop-left.invariant c.from-count.result
    (rw c.from-count.ensures c.tuples_on_page.ensures.room)

pub loop-left-preserved : goal.loop-left-preserved
loop-left-preserved c =
    let some : 0 < length c.loop-left.left.now = grind (arith, nat_tests, c.is_empty.ensures, c.loop-left-test.true) in
    let inside = c.tuples_on_page.ensures.inside in
    let is = c.from-count.ensures in
    more-put c.args.kinds.now c.args.pages_per_range c.args.ranges.now c.args.sizes.now c.args.image.now c.loop-left.first c.loop-left.left.now
    c.loop-left.sizes.now c.loop-left.image c.loop-left.invariant c.from-count.result c.in_ok-page.page c.append.new.self some
    (c.from-count.ensures ∙ c.tuples_on_page.ensures.count)
    (rw c.from-count.ensures c.tuples_on_page.ensures.room)
    (omega arith)
    c.in_ok-page.ensures c.in_ok-append.ensures.ok

pub returns : goal.returns
returns c =
    all-put c.args.kinds.now c.args.pages_per_range c.args.ranges.now c.args.sizes.now c.args.image.now c.loop-left.first c.loop-left.left.now
    c.loop-left.sizes.now c.loop-left.image c.loop-left.invariant
    (grind (arith, nat_tests, c.is_empty.ensures, c.loop-left-test.false))
