use Rattle.std.proofs.Common.{◌≡◌, ◌+◌, ◌*◌, ◌^◌, ◌≤◌}
use Rattle.heap_row.proofs.Elements.{with_front, rest_of}
use Rattle.heap_row.specs.Array.{elements_behind, nulls_of}
use Rattle.heap_row.proofs.array.read_elements.Given as goal

abbrev pub invariant-loop-n : goal.invariant-loop-n
invariant-loop-n l = record {
  read : with_front l.elements.items (elements_behind l.element l.content l.place (rest_of l.content l.shape l.n))
      ≡ elements_behind l.element l.content l.shape.first (nulls_of l.content l.shape);
  place : l.place ≤ 2 ^ 63 + 4 + 8 * l.n;
}
