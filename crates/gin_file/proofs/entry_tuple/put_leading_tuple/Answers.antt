use Rattle.std.proofs.Common.{arith}
use Rattle.gin_file.proofs.EntryTuples.{leading-joined, length-part}
use Rattle.gin_file.proofs.entry_tuple.put_leading_tuple.Goals as goal

pub fill_up-requires : goal.fill_up-requires
fill_up-requires c =
    let long = length-part c.args.kind c.args.entry.now c.args.front _ c.args.out.now.items _ c.requires.entry c.in_ok-put_key_part.ensures in
    let size = c.entry_size.ensures in
    let len = c.len.ensures in
    omega arith

pub returns : goal.returns
returns c =
    leading-joined c.args.kind c.args.entry.now c.args.front _ _ c.args.out.now.items _ _ c.requires.entry
    c.entry_size-2.ensures (let size = c.entry_size.ensures in let len = c.len.ensures in omega arith)
    c.in_ok-put_key_part.ensures c.in_ok-fill_up.ensures
