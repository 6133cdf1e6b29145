use Rattle.std.proofs.Common.{refl}
use Rattle.btree_page.proofs.MetaWrites.{written-page_of_meta}
use Rattle.btree_page.proofs.meta.MetaPage.page.Goals as goal

pub returns : goal.returns
returns c =
    rw (c.put.ensures, c.put_slice.ensures, c.put_u16.ensures, c.in_ok-page.ensures, c.bit.ensures)
    (written-page_of_meta _ c.fields.result _ c.fields.ensures refl)
