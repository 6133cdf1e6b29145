use Rattle.std.proofs.Common.{arith}
use Rattle.btree_item.proofs.ItemReads.{kept-read, pointed-read}
use Rattle.btree_item.proofs.item_reading.read_any_pivot.Goals as goal

pub returns-then-front-ge-WITH_POINTER : goal.returns-then-front-ge-WITH_POINTER
returns-then-front-ge-WITH_POINTER c =
    pointed-read c.args.kinds.now c.args.bytes.now c.args.front c.read_pivot_with_pointer.result c.requires.few c.requires.front
    c.requires.mark c.requires.pivot c.if-front-ge-WITH_POINTER.true c.read_pivot_with_pointer.ensures

pub returns-else-front-ge-WITH_POINTER : goal.returns-else-front-ge-WITH_POINTER
returns-else-front-ge-WITH_POINTER c =
    let low = c.if-front-ge-WITH_POINTER.false in
    kept-read c.args.kinds.now c.args.bytes.now c.args.front c.read_pivot.result c.requires.few c.requires.front
    c.requires.mark (omega arith) c.read_pivot.ensures
