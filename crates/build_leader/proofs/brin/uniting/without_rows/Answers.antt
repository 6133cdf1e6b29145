use Rattle.std.proofs.Common.{◌++◌, [], ◌∷◌, ap, ◌∙◌}
use Rattle.brin_summary.specs.Summary.{RangeSummary}
use Rattle.build_leader.proofs.UnitedRanges.{none_more}
use Rattle.build_leader.proofs.brin.uniting.without_rows.Goals as goal

pub loop-range-preserved : goal.loop-range-preserved
loop-range-preserved c =
    c.in_ok-push.ensures.items
    ∙ ap (λ (summary : RangeSummary). c.loop-range.summaries.items ++ summary ∷ []) c.in_ok-empty.ensures
    ∙ none_more c.args.columns c.loop-range._range c.loop-range.summaries.items c.loop-range.invariant
