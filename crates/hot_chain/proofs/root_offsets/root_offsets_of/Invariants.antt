use Rattle.hot_chain.proofs.Fill.{IsFilling}
use Rattle.hot_chain.proofs.root_offsets.root_offsets_of.Given as goal

abbrev pub invariant-loop-start : goal.invariant-loop-start
invariant-loop-start l = IsFilling l.view.bytes l.start l.offsets.items
