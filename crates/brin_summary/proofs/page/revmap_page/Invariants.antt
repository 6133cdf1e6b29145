use Rattle.std.proofs.Common.{◌≡◌, take}
use Rattle.brin_summary.specs.Page.{revmap_page}
use Rattle.brin_summary.proofs.page.revmap_page.Given as goal

abbrev pub invariant-loop-at : goal.invariant-loop-at
invariant-loop-at l = l.page ≡ revmap_page (take l.at l.pointers)
