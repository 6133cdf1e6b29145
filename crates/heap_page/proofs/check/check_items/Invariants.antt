use Rattle.heap_page.specs.Pass.Faults.{IsSoundBelow}
use Rattle.heap_page.specs.Pass.Units.{IsMapBelow}
use Rattle.heap_page.proofs.check.check_items.Given as goal

abbrev pub invariant-loop-item : goal.invariant-loop-item
invariant-loop-item l = record {
  sound : IsSoundBelow l.page.bytes l.page.columns l.item;
  map : IsMapBelow l.page.bytes l.item l.units.marked;
}
