use Rattle.std.proofs.Common.{subst}
use Rattle.std.specs.List.Sorted.{IsPermutation}
use Rattle.std.proofs.lemmas.List.Sorted.{IsPermutation-trans}
use Rattle.run_merge.specs.Heads.{left_at}
use Rattle.run_merge.proofs.Moves.{IsPermutation-flat_map, whole_slice}
use Rattle.run_merge.proofs.heap.move_on.Goals as goal

pub returns-clause-left : goal.returns-clause-left
returns-clause-left c =
    let heads = c.replace_first.new.heads in
    let moved = subst (λ l. IsPermutation l c.sift_down.new.heads) c.deref_mut.ensures.value c.sift_down.ensures.moved
    in
    rw (whole_slice heads.len heads.items c.sift_down.new.heads heads.ok.0 moved)
    (IsPermutation-trans _ _ _ c.replace_first.ensures.left
    (IsPermutation-flat_map (left_at c.args.tapes.now) heads.items c.sift_down.new.heads moved))
