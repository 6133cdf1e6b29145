use Rattle.std.proofs.Common.{◌≡◌, ◌-◌, List, Some, length, slice_get, ap, ◌∙◌}
use Rattle.brin_summary.specs.declared.ranges.SummedRange.{SummedRange}
use Rattle.build_leader.proofs.RangeTallies.{ends_at}
use Rattle.build_leader.proofs.brin.ranges.RangeTally.ends_with.Goals as goal

pub returns-in-Some : goal.returns-in-Some
returns-in-Some c =
    let ranges : List SummedRange = c.args.self.now.ranges.items in
    let at : Some c.in-Some.last.now ≡ slice_get ranges (length ranges - 1) =
    c.in-Some.ensures.value ∙ ap (λ (items : List SummedRange). slice_get items (length items - 1)) c.deref.ensures.value in
    ends_at c.args.range ranges c.in-Some.last.now at
