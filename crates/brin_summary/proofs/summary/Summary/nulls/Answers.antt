use Rattle.std.proofs.Common.{map, ap, ◌∙◌}
use Rattle.brin_summary.specs.Summary.{ColumnSummary, RangeSummary}
use Rattle.brin_summary.proofs.Flags.{nulls-kept}
use Rattle.brin_summary.proofs.summary.Summary.nulls.Goals as goal

pub returns : goal.returns
returns c =
    c.deref.ensures.value ∙ nulls-kept c.self.inside.bounds.items c.self.inside.nulls.items c.self.invariant
    ∙ ap (λ (s : RangeSummary). map (λ (column : ColumnSummary). column.has_null) s.columns) c.self.view_is
