use Rattle.std.proofs.Common.{◌≡◌, ◌∷◌, ◌%◌, ◌/◌, ◌^◌, List, length, nat_eq, refl, ap, subst, sym, ◌∙◌, arith, All}
use Rattle.std.proofs.lemmas.List.Elements.{All-push}
use Rattle.std.specs.Vec.Iter.{into_iter_items}
use Rattle.opclass.specs.declared.value.KeyVal.{KeyVal}
use Rattle.brin_summary.proofs.RangeReading.{column-more}
use Rattle.brin_summary.specs.Reading.{IsCalledRight}
use Rattle.brin_summary.specs.declared.range_tuple.RangeCol.{RangeCol}
use Rattle.brin_summary.proofs.range_tuple.columns_with.Goals as goal

pub loop-at-preserved : goal.loop-at-preserved
loop-at-preserved c =
    let rest : List KeyVal = into_iter_items c.next-in-loop-at.new.self in
    let one : RangeCol = record {
      all_null = c.is_null.result;
      has_null = nat_eq (c.args.nulls / 2 ^ c.loop-at.at % 2) 1;
      low = c.in-Some.low;
      high = c.in-Some-next.high;
    } in
    let are : into_iter_items c.loop-at.bounds ≡ c.in-Some.low ∷ c.in-Some-next.high ∷ rest =
    c.in-Some.ensures.items ∙ ap (λ (vs : List KeyVal). c.in-Some.low ∷ vs) c.in-Some-next.ensures.items in
    let count = ap length are in
    let inside = c.loop-at-test.true in
    record {
      left = (let before = c.loop-at.invariant.left in omega arith);
      whole = rw c.in_ok-push.ensures.items
          (column-more c.loop-at.read.items one (into_iter_items c.loop-at.bounds) rest _ c.args.columns c.loop-at.at c.args.nulls inside are refl c.loop-at.invariant.whole);
      called = subst (All IsCalledRight) (sym c.in_ok-push.ensures.items)
          (All-push IsCalledRight c.loop-at.read.items one c.loop-at.invariant.called c.is_null.ensures);
    }
