use Rattle.std.proofs.Common.{◌≡◌, ◌++◌, drop}
use Rattle.std.specs.List.{flat_map}
use Rattle.opclass.specs.Norm.{piece}
use Rattle.opclass.specs.Order.{unsaid}
use Rattle.opclass.specs.Pass.{IsInFront}
use Rattle.shared_tape.proofs.stored.put_pieces.Given as goal

abbrev pub invariant-loop-value : goal.invariant-loop-value
invariant-loop-value l = record {
  same : l.out.items ++ flat_map (piece unsaid) (drop l.value-index l.value-items)
      ≡ l.fn.out.items ++ flat_map (piece unsaid) l.fn.row.extra;
  front : IsInFront l.fn.out.items l.out.items;
}
