use Rattle.hot_chain.proofs.RootLaws.{separate_roots}
use Rattle.hot_chain.proofs.laws.roots_differ.Goals as goal

pub returns : goal.returns
returns c = separate_roots
