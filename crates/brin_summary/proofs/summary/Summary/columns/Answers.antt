use Rattle.std.proofs.Common.{length, sym, ap, ◌∙◌}
use Rattle.brin_summary.specs.Summary.{RangeSummary}
use Rattle.brin_summary.proofs.Storing.{length-columns_from}
use Rattle.brin_summary.proofs.summary.Summary.columns.Goals as goal

pub returns : goal.returns
returns c =
    c.len.ensures ∙ c.self.inside.nulls.ok.0
    ∙ sym (length-columns_from c.self.inside.bounds.items c.self.inside.nulls.items c.self.invariant)
    ∙ ap (λ (s : RangeSummary). length s.columns) c.self.view_is
