use Rattle.std.proofs.Common.{◌≤◌, take}
use Rattle.build_leader.specs.Holding.{StaysSuited}
use Rattle.build_leader.specs.Scanning.{TakesRows}
use Rattle.build_leader.proofs.PageRows.{AreSoundRows}
use Rattle.build_leader.proofs.scan.block.add_rows.Given as goal

abbrev pub invariant-loop-i : goal.invariant-loop-i
invariant-loop-i l = record {
  same : StaysSuited l.initial.sink l.sink;
  taken : TakesRows l.reader.table l.reader.spec l.view.bytes l.block (take l.i l.roots) l.initial.sink l.count l.sink;
  sound : AreSoundRows l.reader.table l.reader.spec l.view.bytes (take l.i l.roots);
  few : l.count ≤ l.i;
}
