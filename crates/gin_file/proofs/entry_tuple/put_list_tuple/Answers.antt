use Rattle.std.proofs.Common.{arith}
use Rattle.gin_file.proofs.EntryTuples.{length-part, list-joined}
use Rattle.gin_file.proofs.entry_tuple.put_list_tuple.Goals as goal

pub fill_up-requires : goal.fill_up-requires
fill_up-requires c =
    let long = length-part c.args.kind c.args.entry.now _ _ c.args.out.now.items _ c.requires.entry c.in_ok-put_key_part.ensures in
    let place = c.list_place-place.ensures in
    let size = c.al8-size.ensures in
    let len = c.len.ensures in
    let listed = c.in_ok-extend_from_slice.ensures.len in
    omega arith

pub returns : goal.returns
returns c =
    λ pointers is many.
    let len = c.len.ensures in
    list-joined c.args.kind c.args.entry.now pointers c.list_place-place.result c.args.count _ _ c.args.out.now.items _ _ _ c.args.list.now c.requires.entry
    c.list_place-place.ensures is many c.al8-size.ensures (omega arith)
    c.in_ok-put_key_part.ensures c.in_ok-extend_from_slice.ensures.items c.in_ok-fill_up.ensures
