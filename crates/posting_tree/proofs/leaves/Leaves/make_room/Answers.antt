use Rattle.std.proofs.Common.{arith}
use Rattle.posting_tree.proofs.LeafSteps.{leaves-page}
use Rattle.posting_tree.proofs.leaves.Leaves.make_room.Goals as goal

pub returns-clause-takes : goal.returns-clause-takes
returns-clause-takes c old taken l =
    rw (c.in_ok-push.ensures.items, c.clear.ensures.items)
    (leaves-page _ _ _ _ _ _ _ _ _ l (omega arith) c.requires.content (omega (arith, c.len-2.ensures)) c.in_ok-put.ensures.ok)
