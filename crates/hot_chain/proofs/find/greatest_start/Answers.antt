use Rattle.hot_chain.proofs.Fill.{heap_only_root, in_no_chain}
use Rattle.hot_chain.proofs.find.greatest_start.Goals as goal

pub returns-clause-root : goal.returns-clause-root
returns-clause-root c =
    rw c.from.ensures (heap_only_root _ _ _ c.requires.offsets.greatest c.requires.heap_only)

pub returns-clause-in_no_chain : goal.returns-clause-in_no_chain
returns-clause-in_no_chain c = rw c.from.ensures (in_no_chain _ _ _ c.requires.offsets.greatest)
