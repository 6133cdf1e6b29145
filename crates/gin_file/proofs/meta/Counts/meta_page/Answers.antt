use Rattle.gin_file.proofs.MetaWrites.{written-meta_page}
use Rattle.gin_file.proofs.meta.Counts.meta_page.Goals as goal

pub returns : goal.returns
returns c =
    rw (c.put_slice-2.ensures, c.put_slice.ensures, c.put_u16.ensures, c.in_ok-page.ensures)
    (written-meta_page _ c.fields.result c.special_space.result c.fields.ensures c.special_space.ensures)
