use Rattle.std.proofs.Common.{take, ◌≤◌, ◌*◌}
use Rattle.std.specs.Prelude.{All, sum_by}
use Rattle.opclass.specs.Norm.{IsKeyValue}
use Rattle.shared_tape.specs.Laws.{value_room}
use Rattle.sort_tests.proofs.tapes.are_small.Given as goal

abbrev pub invariant-loop-value : goal.invariant-loop-value
invariant-loop-value l = record {
  values : All IsKeyValue (take l.value-index l.values);
  short : sum_by value_room (take l.value-index l.values) ≤ 10000 * l.value-index;
}
