use Rattle.std.proofs.Common.{◌+◌, ◌*◌}
use Rattle.build_leader.proofs.key_parts.+parts.Given as goal

abbrev pub decreases-join+arg3 : goal.decreases-join+arg3
decreases-join+arg3 g l = 2 * l.last + 1

abbrev pub decreases-make_parts : goal.decreases-make_parts
decreases-make_parts g l = 2 * l.parts
