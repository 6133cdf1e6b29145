use Rattle.hot_chain.proofs.RootLaws.{each_one_root, one-root}
use Rattle.hot_chain.proofs.laws.each_has_one_root.Goals as goal

pub returns-clause-unless_orphan : goal.returns-clause-unless_orphan
returns-clause-unless_orphan c = one-root

pub returns-clause-sound : goal.returns-clause-sound
returns-clause-sound c = each_one_root
