use Rattle.posting_tree.proofs.LeafSteps.{leaves-whole}
use Rattle.posting_tree.proofs.leaves.Leaves.close.Goals as goal

pub returns-clause-level : goal.returns-clause-level
returns-clause-level c old taken l some =
    rw c.in_ok-push.ensures.items (leaves-whole _ _ _ _ _ _ _ _ l some c.requires.content c.in_ok-put.ensures.ok)
