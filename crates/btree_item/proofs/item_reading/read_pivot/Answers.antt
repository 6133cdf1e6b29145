use Rattle.std.proofs.Common.{arith}
use Rattle.btree_item.proofs.ItemFronts.{kept-few}
use Rattle.btree_item.proofs.item_reading.read_pivot.Goals as goal

pub returns-then-from-kinds : goal.returns-then-from-kinds
returns-then-from-kinds c = λ keys many t.
    let kept = kept-few c.args.kinds.now c.args.bytes.now keys _ _ t in
    let more = c.if-from-kinds.true in
    let same = c.from.ensures in
    absurd (omega arith)
