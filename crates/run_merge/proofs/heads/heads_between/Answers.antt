use Rattle.std.proofs.Common.{◌∙◌, subst, arith}
use Rattle.std.specs.Option.{option_copied}
use Rattle.std.specs.List.Sorted.{IsPermutation}
use Rattle.run_merge.specs.Heads.{left_at, left_of}
use Rattle.run_merge.specs.Pass.{between_of}
use Rattle.run_merge.proofs.Moves.{IsPermutation-flat_map, whole_slice}
use Rattle.run_merge.proofs.Gathering.{flat_map-all}
use Rattle.run_merge.proofs.heads.heads_between.Goals as goal

pub returns-clause-left : goal.returns-clause-left
returns-clause-left c =
    let heads = c.loop-tape.heads in
    let tapes = c.args.tapes.now in
    let all = c.loop-tape.invariant.left
    ∙ flat_map-all (between_of (option_copied c.args.between.low) (option_copied c.args.between.high)) tapes
    c.loop-tape.tape (omega arith) in
    let moved = subst (λ l. IsPermutation l c.make_heap.new.heads) c.deref_mut.ensures.value c.make_heap.ensures.moved
    in
    rw (whole_slice heads.len heads.items c.make_heap.new.heads heads.ok.0 moved)
    (subst (λ l. IsPermutation l (left_of tapes c.make_heap.new.heads)) all
    (IsPermutation-flat_map (left_at tapes) heads.items c.make_heap.new.heads moved))
