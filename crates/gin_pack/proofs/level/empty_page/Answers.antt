use Rattle.std.proofs.Common.{lit≤}
use Rattle.pg_bytes.proofs.ItemPage.{written-empty_page}
use Rattle.gin_file.proofs.SpecialSpaces.{length-special_space}
use Rattle.gin_pack.proofs.level.empty_page.Goals as goal

pub returns : goal.returns
returns c =
    rw (c.put_slice.ensures, c.special_space.ensures, c.in_ok-page.ensures)
    (written-empty_page _ 8 (length-special_space _ _ _) (lit≤ tt))
