use Rattle.btree_item.proofs.Filling.{filled}
use Rattle.btree_item.proofs.tuple.fill_up.Goals as goal

pub returns-clause-ok : goal.returns-clause-ok
returns-clause-ok c =
    rw (c.truncate.ensures.items, c.in_ok-extend_from_slice.ensures.items)
    (filled c.args.out.now.items c.args.end c.requires.behind c.requires.near)
