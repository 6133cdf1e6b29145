use Rattle.std.proofs.Common.{length, ◌-◌, ◌≤◌}
use Rattle.stmt_token.proofs.Strings.{Found}
use Rattle.stmt_token.proofs.scan.string_end.Given as goal

abbrev pub invariant-loop-at : goal.invariant-loop-at
invariant-loop-at l = record { within : l.at ≤ length l.inside; found : Found l.inside l.at }

abbrev pub decreases-loop-at : goal.decreases-loop-at
decreases-loop-at l = length l.inside - l.at
