use Rattle.std.proofs.Common.{◌≡◌, take}
use Rattle.brin_summary.specs.Tuple.{bound_kinds}
use Rattle.brin_summary.proofs.tuple.BoundKinds.of.Given as goal

abbrev pub invariant-loop-kind : goal.invariant-loop-kind
invariant-loop-kind l = l.twice.items ≡ bound_kinds (take l.kind-index l.kinds)
