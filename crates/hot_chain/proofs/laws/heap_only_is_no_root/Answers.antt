use Rattle.hot_chain.proofs.RootLaws.{not_own_root}
use Rattle.hot_chain.proofs.laws.heap_only_is_no_root.Goals as goal

pub returns : goal.returns
returns c = not_own_root
