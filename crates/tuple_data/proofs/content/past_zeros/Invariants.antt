use Rattle.std.proofs.Common.{◌≡◌, ◌≤◌, ◌++◌}
use Rattle.pg_bytes.specs.Places.{zeros}
use Rattle.tuple_data.proofs.content.past_zeros.Given as goal

abbrev pub invariant-loop : goal.invariant-loop
invariant-loop l = record { passed : l.bytes ≡ zeros l.counter ++ l.rest; within : l.counter ≤ l.count }
