use Rattle.build_leader.proofs.SameRows.{same_heap_rows}
use Rattle.build_leader.proofs.laws.heap_rows_are_determined.Goals as goal

pub returns : goal.returns
returns c = same_heap_rows
