use Rattle.std.proofs.Common.{◌≡◌, ◌+◌, IfSome, length}
use Rattle.heap_page.specs.Line.{heap_line_count}
use Rattle.hot_chain.specs.Pass.RootOffsets.{AreRootOffsets}
use Rattle.hot_chain.specs.Pass.Rows.{AreRowsOfItemsBelow}
use Rattle.hot_chain.proofs.find.find_roots.Given as goal

abbrev pub invariant-loop-item : goal.invariant-loop-item
invariant-loop-item l = record {
  offsets : IfSome l.offsets (λ known. AreRootOffsets l.view.bytes known.items);
  room : length l.in_index.items ≡ heap_line_count l.view.bytes + 1;
  rows : AreRowsOfItemsBelow l.view.bytes l.item l.roots l.in_index.items;
}
