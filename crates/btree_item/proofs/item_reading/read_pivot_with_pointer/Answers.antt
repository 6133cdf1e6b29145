use Rattle.std.proofs.Common.{◌-◌, rules, arith}
use Rattle.std.proofs.lemmas.List.{take_rest}
use Rattle.btree_item.proofs.ItemReads.{last-only}
use Rattle.btree_item.proofs.item_reading.read_pivot_with_pointer.Goals as goal

pub returns : goal.returns
returns c =
    let mark = c.requires.mark in
    last-only c.args.kinds.now c.args.bytes.now (c.args.front.offset - 4096) c.args.front.offset c.first_pointer-last.result c.args.front.block
    c.read_kept.result (search (rules, take_rest)) (omega arith) c.read_kept.ensures
