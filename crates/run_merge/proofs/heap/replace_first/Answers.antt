use Rattle.run_merge.proofs.Heaping.{replaced, removed}
use Rattle.run_merge.proofs.heap.replace_first.Goals as goal

pub returns-then-next-first-clause-left : goal.returns-then-next-first-clause-left
returns-then-next-first-clause-left c =
    replaced _ c.args.heads.now.items _ c.index-first.result.now c.requires.some c.requires.heap.each
    c.index-first.ensures c.new.ensures.left

pub returns-else-next-first-clause-left : goal.returns-else-next-first-clause-left
returns-else-next-first-clause-left c =
    rw c.swap_remove.ensures.items (removed _ c.args.heads.now.items c.index-first.result.now _ c.requires.some
    c.requires.heap.each c.index-first.ensures c.if-next-first.false)
