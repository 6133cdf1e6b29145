use Rattle.std.proofs.Common.{rules, arith}
use Rattle.gin_file.proofs.EntryItems.{few-listed, list-answer}
use Rattle.gin_file.proofs.entry_reading.has_list_tuple.Goals as goal

pub returns-then-ptrs-gt-MOST_SIZE : goal.returns-then-ptrs-gt-MOST_SIZE
returns-then-ptrs-gt-MOST_SIZE c =
    ((λ no. absurd cc), (λ both. let few = few-listed _ _ _ both.0 in let many = c.if-ptrs-gt-MOST_SIZE.true in absurd (omega arith)))

pub returns : goal.returns
returns c =
    let fits = c.if-list_place-len-gt-MOST_SIZE.false in
    let place = c.list_place.ensures in
    let count = c.len.ensures in
    list-answer c.args.kind c.args.entry.now c.args.ptrs.now c.args.bytes.now c.put_list_tuple.new.out.items c.in_ok-list.list c.eq.result
    c.requires.some c.requires.ascending c.requires.blocks c.in_ok-list.ensures (omega arith) (search rules) (search rules)
