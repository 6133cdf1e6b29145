use Rattle.std.proofs.Common.{◌+◌, ◌-◌, ◌++◌}
use Rattle.posting_tree.proofs.Varbytes.{Completes}
use Rattle.posting_tree.specs.Pass.{IsInFront}
use Rattle.posting_tree.specs.Segments.{varbyte}
use Rattle.posting_tree.proofs.varbyte.put_varbyte.Given as goal

abbrev pub invariant-loop-rest : goal.invariant-loop-rest
invariant-loop-rest l = record {
  whole : Completes (l.fn.out.items ++ varbyte l.x) l.out.items l.rest;
  front : IsInFront l.fn.out.items l.out.items;
}

abbrev pub decreases-loop-rest : goal.decreases-loop-rest
decreases-loop-rest l = l.rest + 1 - 128
