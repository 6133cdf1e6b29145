use Rattle.std.proofs.Common.{ap, ◌∙◌}
use Rattle.brin_summary.specs.Summary.{RangeSummary}
use Rattle.brin_summary.specs.Tuple.{bounds_of}
use Rattle.brin_summary.proofs.Flags.{bounds_of-kept}
use Rattle.brin_summary.proofs.summary.Summary.bounds.Goals as goal

pub returns : goal.returns
returns c =
    c.deref.ensures.value ∙ bounds_of-kept c.self.inside.bounds.items c.self.inside.nulls.items c.self.invariant
    ∙ ap (λ (s : RangeSummary). bounds_of s.columns) c.self.view_is
