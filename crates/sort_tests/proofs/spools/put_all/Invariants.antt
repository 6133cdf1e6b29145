use Rattle.std.proofs.Common.{◌≡◌, length}
use Rattle.sort_tests.proofs.spools.put_all.Given as goal

abbrev pub invariant-loop-offset : goal.invariant-loop-offset
invariant-loop-offset l = length l.spool.order ≡ 1
