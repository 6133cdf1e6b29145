use Rattle.std.proofs.Common.{◌≡◌, ◌+◌, ◌*◌, take}
use Rattle.brin_summary.specs.File.{tuples_from}
use Rattle.brin_summary.specs.Page.{regular_page}
use Rattle.brin_summary.proofs.regular.regular_page.Given as goal

abbrev pub invariant-loop-at : goal.invariant-loop-at
invariant-loop-at l = record {
  block : l.block ≡ l.first + l.at * l.pages_per_range;
  page : l.page ≡ regular_page (take l.at (tuples_from l.kinds l.pages_per_range l.first l.ranges));
}
