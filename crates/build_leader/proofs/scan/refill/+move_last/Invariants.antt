use Rattle.build_leader.proofs.scan.refill.+move_last.Given as goal

abbrev pub decreases-move_last : goal.decreases-move_last
decreases-move_last l = l.count
