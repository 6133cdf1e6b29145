use Rattle.std.proofs.Common.{◌≡◌, ◌-◌, ◌++◌}
use Rattle.brin_summary.specs.File.{pointers_to}
use Rattle.brin_summary.proofs.revmap.push_pointers.Given as goal

abbrev pub invariant-loop-offset : goal.invariant-loop-offset
invariant-loop-offset l = l.pointers.items ≡ l.fn.pointers.items ++ pointers_to l.block (l.offset - 1)
