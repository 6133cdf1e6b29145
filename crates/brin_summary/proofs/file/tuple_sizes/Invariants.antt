use Rattle.std.proofs.Common.{◌≡◌, ◌≤◌, map, take, drop}
use Rattle.std.specs.Prelude.{All}
use Rattle.brin_summary.specs.Answer.{tuple_size, wide_from}
use Rattle.brin_summary.proofs.file.tuple_sizes.Given as goal

abbrev pub invariant-loop-range : goal.invariant-loop-range
invariant-loop-range l = record {
  sizes : l.sizes.items ≡ map (tuple_size l.kinds) (take l.range l.ranges);
  small : All (λ size. size ≤ 8152) l.sizes.items;
  wide : wide_from l.kinds 0 l.ranges ≡ wide_from l.kinds l.range (drop l.range l.ranges);
}
