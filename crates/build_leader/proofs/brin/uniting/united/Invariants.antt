use Rattle.std.proofs.Common.{◌≡◌, ◌++◌, length}
use Rattle.std.specs.List.{flat_map}
use Rattle.std.specs.Vec.Iter.{into_iter_items}
use Rattle.build_leader.specs.Uniting.{AreTold, HaveColumns}
use Rattle.build_leader.proofs.brin.uniting.united.Given as goal

abbrev pub invariant-loop-part : goal.invariant-loop-part
invariant-loop-part l = record {
  can_next : (goal.iterator-loop-part).can_next l.part-iterator;
  is_finite : (goal.iterator-loop-part).is_finite l.part-iterator;
  are : l.fn.parts ≡ l.yielded ++ into_iter_items l.part-iterator;
  alike : HaveColumns l.columns l.known.items;
  count : length l.known.items ≡ l.count;
  told : AreTold l.columns (flat_map (λ part. part) l.yielded) l.known.items;
}
