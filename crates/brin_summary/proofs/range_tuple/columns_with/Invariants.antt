use Rattle.std.proofs.Common.{◌≡◌, ◌-◌, ◌*◌, ◌/◌, ◌^◌, ◌++◌, All, length, map}
use Rattle.std.specs.Vec.Iter.{into_iter_items}
use Rattle.brin_summary.specs.Pass.{columns_from, flags_of}
use Rattle.brin_summary.specs.Reading.{IsCalledRight, column_read}
use Rattle.brin_summary.proofs.range_tuple.columns_with.Given as goal

abbrev pub invariant-loop-at : goal.invariant-loop-at
invariant-loop-at l = record {
  left : length (into_iter_items l.bounds) ≡ 2 * (l.columns - l.at);
  whole : map column_read l.read.items ++ columns_from (into_iter_items l.bounds) (flags_of (l.columns - l.at) (l.nulls / 2 ^ l.at))
      ≡ columns_from l.fn.bounds.items (flags_of l.fn.columns l.fn.nulls);
  called : All IsCalledRight l.read.items;
}
