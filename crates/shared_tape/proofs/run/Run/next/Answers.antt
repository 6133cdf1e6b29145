use Rattle.std.proofs.Common.{◌<◌, length, arith}
use Rattle.shared_tape.proofs.RunSteps.{sound_next, view_next}
use Rattle.shared_tape.proofs.run.Run.next.Goals as goal

pub invariant_of-self : goal.invariant_of-self
invariant_of-self c = sound_next _ _ _ _ (omega (arith, c.self.inside.laid.starts.ok.0, c.self.invariant.within)) c.self.invariant

pub returns-clause-ok : goal.returns-clause-ok
returns-clause-ok c =
    let left : c.self.inside.taken < length c.self.inside.laid.starts.items =
    omega (arith, c.self.inside.laid.starts.ok.0, c.self.invariant.within) in
    view_next _ _ _ _ _ _ c.self.view_is left c.in_ok-row.ensures
