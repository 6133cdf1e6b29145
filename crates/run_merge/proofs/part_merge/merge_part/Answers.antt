use Rattle.std.proofs.Common.{◌∙◌, subst}
use Rattle.std.specs.List.Sorted.{IsPermutation}
use Rattle.run_merge.specs.Heads.{left_of}
use Rattle.run_merge.specs.Pass.{all_between}
use Rattle.run_merge.proofs.Merging.{all_between-is}
use Rattle.run_merge.proofs.part_merge.merge_part.Goals as goal

pub returns-clause-left : goal.returns-clause-left
returns-clause-left c =
    let tapes = c.args.tapes.now in
    let is = (λ i. all_between (c.around.ensures.low i) (c.around.ensures.high i) tapes)
    ∙ all_between-is c.args.order.now _ _ tapes c.requires.order in
    subst (λ l. IsPermutation l (left_of tapes c.in_ok-heads.heads.items)) is c.in_ok-heads.ensures.left
