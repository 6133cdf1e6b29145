use Rattle.brin_summary.proofs.FileLaws.{has_its_pages}
use Rattle.brin_summary.proofs.laws.file_has_its_pages.Goals as goal

pub returns : goal.returns
returns c = has_its_pages
