use Rattle.std.proofs.Common.{◌+◌, ◌*◌, length}
use Rattle.build_leader.proofs.scan.team.+team.Given as goal

abbrev pub decreases-join+arg3 : goal.decreases-join+arg3
decreases-join+arg3 g l = 2 * length l.seats.items + 1

abbrev pub decreases-scan_team : goal.decreases-scan_team
decreases-scan_team g l = 2 * length l.seats.items
