use Rattle.std.proofs.lemmas.List.Sorted.{IsPermutation-refl, IsPermutation-trans}
use Rattle.run_merge.proofs.Heaping.{heap_of_leaves}
use Rattle.run_merge.proofs.heap.make_heap.Goals as goal

pub loop-root-init : goal.loop-root-init
loop-root-init c = record { moved = IsPermutation-refl _; each = c.requires; heap = heap_of_leaves _ _ }

pub loop-root-preserved : goal.loop-root-preserved
loop-root-preserved c = record {
  moved = IsPermutation-trans _ _ _ c.loop-root.invariant.moved c.sift_down.ensures.moved;
  each = c.sift_down.ensures.each;
  heap = c.sift_down.ensures.heap;
}
