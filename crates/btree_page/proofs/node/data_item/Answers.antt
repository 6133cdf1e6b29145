use Rattle.std.proofs.Common.{arith}
use Rattle.btree_page.proofs.NodeReading.{none-behind-count}
use Rattle.btree_page.proofs.node.data_item.Goals as goal

pub returns-else-number-data_count : goal.returns-else-number-data_count
returns-else-number-data_count c =
    let past = c.if-number-data_count.false in
    none-behind-count c.args.page.now _ (omega (arith, past, c.data_count.ensures.value))
