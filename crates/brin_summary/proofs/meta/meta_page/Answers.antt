use Rattle.brin_summary.proofs.PageWrites.{written-meta_page}
use Rattle.brin_summary.proofs.meta.meta_page.Goals as goal

pub returns : goal.returns
returns c =
    rw (c.put_slice-2.ensures, c.put_slice.ensures, c.put_u16.ensures, c.in_ok-page.ensures)
    (written-meta_page _ _ c.meta_fields.result c.special_space.result c.meta_fields.ensures c.special_space.ensures)
