use Rattle.std.proofs.Common.{◌++◌, ◌∙◌, ap, subst, List, ℕ, append-nil}
use Rattle.posting_tree.proofs.LeafSteps.{leaves-segment}
use Rattle.posting_tree.specs.Building.{LeavesPut}
use Rattle.posting_tree.proofs.leaves.Leaves.take.Goals as goal

pub returns-clause-takes : goal.returns-clause-takes
returns-clause-takes c part is bytes_are last_is old taken l =
    let before : LeavesPut old c.make_room.new.image c.make_room.new.self.level.first c.make_room.new.self.level.keys.items c.make_room.new.self.content.items c.make_room.new.self.last taken =
    subst (LeavesPut old c.make_room.new.image c.make_room.new.self.level.first c.make_room.new.self.level.keys.items c.make_room.new.self.content.items c.make_room.new.self.last) (append-nil taken)
    (c.in_ok-make_room.ensures.takes old taken l) in
    rw last_is
    (leaves-segment _ _ _ _ _ _ _ _ _ before is
    (c.in_ok-extend_from_slice.ensures.items ∙ ap (λ (b : List ℕ). c.make_room.new.self.content.items ++ b) bytes_are))
