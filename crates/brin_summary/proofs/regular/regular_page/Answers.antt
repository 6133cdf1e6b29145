use Rattle.std.proofs.Common.{length, ap, ◌∙◌, arith}
use Rattle.brin_summary.specs.Page.{regular_page}
use Rattle.brin_summary.proofs.TuplePages.{all-placed, next-block, next-place, next-tuple}
use Rattle.brin_summary.proofs.regular.regular_page.Goals as goal

pub overflow_cast-at : goal.overflow_cast-at
overflow_cast-at c =
    let few = (next-place c.args.kinds.now c.args.pages_per_range c.args.first c.args.ranges.now c.loop-at.at c.loop-at-test.true c.loop-at.page c.requires.room c.loop-at.invariant.page).few in
    omega arith

pub overflow_add-at : goal.overflow_add-at
overflow_add-at c =
    let few = (next-place c.args.kinds.now c.args.pages_per_range c.args.first c.args.ranges.now c.loop-at.at c.loop-at-test.true c.loop-at.page c.requires.room c.loop-at.invariant.page).few in
    omega arith

pub put_item-requires-clause-item : goal.put_item-requires-clause-item
put_item-requires-clause-item c =
    let some = (next-place c.args.kinds.now c.args.pages_per_range c.args.first c.args.ranges.now c.loop-at.at c.loop-at-test.true c.loop-at.page c.requires.room c.loop-at.invariant.page).some in
    let item = ap length (next-tuple c.args.kinds.now c.args.pages_per_range c.args.first c.args.ranges.now c.loop-at.at c.loop-at-test.true c.loop-at.block c.index-ranges-at.result c.put_tuple.new.tuple.items c.deref.result.now c.loop-at.invariant.block c.index-ranges-at.is c.in_ok-put_tuple.ensures c.deref.ensures.value) in
    omega arith

pub put_item-requires-clause-upper : goal.put_item-requires-clause-upper
put_item-requires-clause-upper c =
    (next-place c.args.kinds.now c.args.pages_per_range c.args.first c.args.ranges.now c.loop-at.at c.loop-at-test.true c.loop-at.page c.requires.room c.loop-at.invariant.page).upper

pub put_item-requires-clause-room : goal.put_item-requires-clause-room
put_item-requires-clause-room c =
    let room = (next-place c.args.kinds.now c.args.pages_per_range c.args.first c.args.ranges.now c.loop-at.at c.loop-at-test.true c.loop-at.page c.requires.room c.loop-at.invariant.page).room in
    let item = next-tuple c.args.kinds.now c.args.pages_per_range c.args.first c.args.ranges.now c.loop-at.at c.loop-at-test.true c.loop-at.block c.index-ranges-at.result c.put_tuple.new.tuple.items c.deref.result.now c.loop-at.invariant.block c.index-ranges-at.is c.in_ok-put_tuple.ensures c.deref.ensures.value in
    rw item room

pub loop-at-preserved : goal.loop-at-preserved
loop-at-preserved c =
    let more = (next-place c.args.kinds.now c.args.pages_per_range c.args.first c.args.ranges.now c.loop-at.at c.loop-at-test.true c.loop-at.page c.requires.room c.loop-at.invariant.page).more in
    let item = next-tuple c.args.kinds.now c.args.pages_per_range c.args.first c.args.ranges.now c.loop-at.at c.loop-at-test.true c.loop-at.block c.index-ranges-at.result c.put_tuple.new.tuple.items c.deref.result.now c.loop-at.invariant.block c.index-ranges-at.is c.in_ok-put_tuple.ensures c.deref.ensures.value in
    record {
      block = next-block c.loop-at.block c.args.first c.loop-at.at c.args.pages_per_range c.loop-at.invariant.block;
      page = c.put_item.ensures ∙ rw item more;
    }

pub returns : goal.returns
returns c =
    c.loop-at.invariant.page
    ∙ ap regular_page (all-placed c.args.kinds.now c.args.pages_per_range c.args.first c.args.ranges.now c.loop-at.at (let done = c.loop-at-test.false in omega arith))
