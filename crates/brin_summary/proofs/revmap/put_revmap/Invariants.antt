use Rattle.std.proofs.Common.{◌≡◌, ◌++◌}
use Rattle.brin_summary.specs.File.{revmap_of}
use Rattle.brin_summary.proofs.revmap.put_revmap.Given as goal

abbrev pub invariant-loop-page : goal.invariant-loop-page
invariant-loop-page l = l.image ≡ l.fn.image ++ revmap_of l.page l.pointers
