use Rattle.build_leader.proofs.Neighbours.{neighbours_tell}
use Rattle.build_leader.proofs.laws.neighbours_tell_of_clashes.Goals as goal

pub returns : goal.returns
returns c = neighbours_tell
