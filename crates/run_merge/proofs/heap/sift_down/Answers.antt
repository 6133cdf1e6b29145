use Rattle.std.proofs.Common.{◌∙◌, sym, arith}
use Rattle.run_merge.specs.Heads.{is_behind}
use Rattle.run_merge.proofs.Heaping.{sinks_start, sinks_more, sinks_stop, sinks_end, same_test}
use Rattle.run_merge.proofs.heap.sift_down.Goals as goal

pub loop-hole-init : goal.loop-hole-init
loop-hole-init c = sinks_start _ _ _ c.requires.each

pub loop-hole-preserved : goal.loop-hole-preserved
loop-hole-preserved c =
    let child = c.first_child-child.ensures in
    let heads = c.loop-hole.heads in
    sinks_more _ _ heads _ _ c.loop-hole.hole c.first_child-child.result c.loop-hole.invariant child.after child.child
    child.within child.first
    (λ d. same_test (is_behind c.args.tapes.now) heads _ _ _ d _ (omega arith) child.within
    (sym c.is_behind.ensures ∙ c.if-not-is_behind.false))
    c.swap.ensures.after c.swap.ensures.permutation c.swap.ensures.len

pub returns-then-not-is_behind-clause-heap : goal.returns-then-not-is_behind-clause-heap
returns-then-not-is_behind-clause-heap c =
    let child = c.first_child-child.ensures in
    let heads = c.loop-hole.heads in
    sinks_stop _ _ heads _ c.loop-hole.hole c.first_child-child.result c.loop-hole.invariant child.first
    (λ d. same_test (is_behind c.args.tapes.now) heads _ _ _ d _ (omega arith) child.within
    (sym c.is_behind.ensures ∙ c.if-not-is_behind.true))
    c.requires.heap

pub returns-clause-heap : goal.returns-clause-heap
returns-clause-heap c = sinks_end _ _ c.loop-hole.heads _ c.loop-hole.hole c.loop-hole.invariant
    c.loop-hole-test.false c.requires.heap
