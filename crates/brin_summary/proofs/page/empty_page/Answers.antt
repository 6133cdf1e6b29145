use Rattle.brin_summary.proofs.PageWrites.{written-regular_page}
use Rattle.brin_summary.proofs.page.empty_page.Goals as goal

pub returns : goal.returns
returns c = rw (c.put_slice.ensures, c.in_ok-page.ensures) (written-regular_page c.special_space.result c.special_space.ensures)
