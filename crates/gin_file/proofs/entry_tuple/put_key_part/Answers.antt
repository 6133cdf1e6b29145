use Rattle.gin_file.proofs.EntryTuples.{part-joined}
use Rattle.gin_file.proofs.entry_tuple.put_key_part.Goals as goal

pub returns : goal.returns
returns c =
    part-joined c.args.kind c.args.entry.now c.args.front c.args.size c.args.out.now.items _ _ c.requires.entry
    c.in_ok-put_index_tuple.ensures c.in_ok-put_category.ensures
