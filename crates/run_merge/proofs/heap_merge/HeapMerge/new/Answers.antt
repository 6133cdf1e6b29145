use Rattle.std.proofs.Common.{subst}
use Rattle.std.specs.List.Sorted.{IsPermutation}
use Rattle.run_merge.specs.Heads.{left_of}
use Rattle.run_merge.proofs.Merging.{all_between-whole}
use Rattle.run_merge.proofs.heap_merge.HeapMerge.new.Goals as goal

pub returns-clause-left : goal.returns-clause-left
returns-clause-left c =
    subst (λ l. IsPermutation l (left_of c.args.tapes c.in_ok-heads.heads.items))
    (all_between-whole c.args.order c.args.tapes c.requires) c.in_ok-heads.ensures.left
