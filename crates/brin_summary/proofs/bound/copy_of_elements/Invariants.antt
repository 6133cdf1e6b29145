use Rattle.std.proofs.Common.{◌≡◌, take}
use Rattle.brin_summary.proofs.bound.copy_of_elements.Given as goal

abbrev pub invariant-loop-element : goal.invariant-loop-element
invariant-loop-element l = l.copies.items ≡ take l.element-index l.element-items
