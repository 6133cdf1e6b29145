use Rattle.btree_pack.proofs.BegunPages.{written-begun_page}
use Rattle.btree_page.proofs.MetaWrites.{length-special_bytes}
use Rattle.btree_pack.proofs.tuples.begun.Goals as goal

pub returns : goal.returns
returns c =
    rw (c.put_u16.ensures, c.put.ensures, c.in_ok-page.ensures)
    (written-begun_page _ c.args.reserved (length-special_bytes _) c.requires)
