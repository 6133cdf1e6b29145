use Rattle.std.proofs.Common.{◌+◌, ◌*◌, ◌≤◌, length, max, take, drop}
use Rattle.posting_tree.proofs.Deltas.{Telescopes}
use Rattle.posting_tree.specs.Pass.{AscendBehind, IsInFront}
use Rattle.posting_tree.specs.Segments.{HaveBlocks}
use Rattle.posting_tree.proofs.encoding.put_deltas.Given as goal

abbrev pub invariant-loop-at : goal.invariant-loop-at
invariant-loop-at l = record {
  put : Telescopes l.fn.out.items l.number (take l.at l.ptrs) l.out.items l.last;
  ascends : AscendBehind l.last (drop l.at l.ptrs);
  within : length l.out.items ≤ max l.end (length l.fn.out.items);
  room : length l.out.items ≤ length l.fn.out.items + 7 * l.at;
  blocks : HaveBlocks (take l.at l.ptrs);
  front : IsInFront l.fn.out.items l.out.items;
}
