use Rattle.std.proofs.Common.{rules}
use Rattle.std.proofs.lemmas.List.{take_rest}
use Rattle.btree_item.proofs.Pointers.{read-next}
use Rattle.btree_item.proofs.item_reading.pointers_of.Goals as goal

pub loop-preserved : goal.loop-preserved
loop-preserved c =
    rw c.in_ok-push.ensures.items
    (read-next c.args.count c.loop.counter c.args.bytes.now c.loop.left.now _ c.loop.ptrs.items c.first_pointer.result c.loop-test.true
    c.loop.invariant c.first_pointer.ensures.is c.first_pointer.ensures.fit (search (rules, take_rest)))
