use Rattle.brin_summary.proofs.Cutting.{IsFront}
use Rattle.brin_summary.proofs.regular.tuples_on_page.Given as goal

abbrev pub invariant-loop-count : goal.invariant-loop-count
invariant-loop-count l = IsFront l.sizes l.count l.taken
