use Rattle.std.proofs.Common.{arith}
use Rattle.gin_file.proofs.EntryTuples.{kinds_of, tuple-filled, values_of}
use Rattle.gin_file.proofs.entry_tuple.put_index_tuple.Goals as goal

pub returns : goal.returns
returns c =
    tuple-filled c.args.out.now.items _ _ _ _ c.args.front c.args.size c.marks.result _ (kinds_of c.args.kind) (values_of c.args.entry.now)
    c.marks.ensures c.in_ok-put_head.ensures c.in_ok-put_bitmap.ensures c.in_ok-put_key.ensures
    (let len = c.len.ensures in let start = c.len-start.ensures in let size = c.al8.ensures in omega arith) c.in_ok-fill_up.ensures
