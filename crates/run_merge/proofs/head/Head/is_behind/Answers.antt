use Rattle.run_merge.proofs.Heaping.{apart_by_head}
use Rattle.run_merge.proofs.head.Head.is_behind.Goals as goal

pub returns-else-other-self : goal.returns-else-other-self
returns-else-other-self c = apart_by_head _ _ _ c.requires.other c.requires.head c.if-other-self.false
