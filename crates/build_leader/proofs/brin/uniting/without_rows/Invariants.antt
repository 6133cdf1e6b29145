use Rattle.std.proofs.Common.{◌≡◌, []}
use Rattle.build_leader.specs.Uniting.{told_each}
use Rattle.build_leader.proofs.brin.uniting.without_rows.Given as goal

abbrev pub invariant-loop-range : goal.invariant-loop-range
invariant-loop-range l = l.summaries.items ≡ told_each l.columns l._range []
