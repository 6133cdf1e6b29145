use Rattle.std.proofs.Common.{◌≡◌, replicate}
use Rattle.opclass.specs.declared.value.KeyVal.TheVariants.{Nil}
use Rattle.brin_summary.proofs.summary.no_values.Given as goal

abbrev pub invariant-loop-place : goal.invariant-loop-place
invariant-loop-place l = l.values.items ≡ replicate l._place Nil
