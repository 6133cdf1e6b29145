use Rattle.shared_tape.proofs.RunSteps.{order_at_start}
use Rattle.shared_tape.proofs.run.Run.order_at.Goals as goal

pub returns : goal.returns
returns c = order_at_start _ _ _ _ _ _ _ _ c.self.invariant c.self.view_is c.requires c.index.ensures (rw c.deref.ensures.value at c.counted_at.ensures)
