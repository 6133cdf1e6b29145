use Rattle.std.proofs.Common.{rules}
use Rattle.std.proofs.lemmas.List.{take_rest}
use Rattle.btree_item.proofs.ItemReads.{keys-within, pointers-only}
use Rattle.btree_item.proofs.item_reading.pointers_behind.Goals as goal

pub returns-in-Some-clause-only : goal.returns-in-Some-clause-only
returns-in-Some-clause-only c =
    let place = c.tuple_size.ensures in
    pointers-only c.args.kinds.now c.args.bytes.now c.in-Some.behind.now c.args.keys.now c.args.count c.from.result c.read_pointers.result
    (search (rules, take_rest)) c.from.ensures c.read_pointers.ensures.only

pub returns-in-None-clause-only : goal.returns-in-None-clause-only
returns-in-None-clause-only c = λ ptrs many t.
    let within = keys-within c.args.kinds.now c.args.bytes.now c.args.keys.now ptrs t in
    let place = c.tuple_size.ensures in
    search rules
