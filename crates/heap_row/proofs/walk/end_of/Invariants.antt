use Rattle.std.proofs.Common.{◌≡◌, ◌≤◌, Ok, length}
use Rattle.heap_row.specs.Attribute.{end_of}
use Rattle.heap_row.proofs.walk.end_of.Given as goal

abbrev pub invariant-loop-before : goal.invariant-loop-before
invariant-loop-before l = record {
  stands : end_of l.tuple l.columns l.before ≡ Ok l.place;
  inside : l.place ≤ length l.tuple.body;
  behind : l.before ≤ l.target;
}
