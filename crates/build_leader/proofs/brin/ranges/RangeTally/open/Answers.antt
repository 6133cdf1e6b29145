use Rattle.std.proofs.Common.{◌≡◌, ◌++◌, [], ◌∷◌, sym, ap, subst, ◌∙◌}
use Rattle.brin_summary.specs.Summary.{RangeSummary}
use Rattle.build_leader.specs.Ranges.{HoldRanges}
use Rattle.build_leader.specs.Tally.{AreOfColumns, begun_range, ends_with}
use Rattle.build_leader.proofs.RangeTallies.{begun_columns, ends_begun, hold_begun}
use Rattle.build_leader.proofs.brin.ranges.RangeTally.open.Goals as goal

pub returns-clause-opened : goal.returns-clause-opened
returns-clause-opened c =
    let is : c.push.new.self.items ≡ c.args.self.now.ranges.items ++ begun_range c.args.self.now.columns c.args.range ∷ [] =
    c.in_ok-push.ensures.items ∙ ap (λ (summary : RangeSummary). c.args.self.now.ranges.items ++ record { range = c.args.range; summary = summary } ∷ []) c.in_ok-summary.ensures in
    ap (ends_with c.args.range) is ∙ ends_begun c.args.self.now.columns c.args.range c.args.self.now.ranges.items

pub returns-clause-alike : goal.returns-clause-alike
returns-clause-alike c = λ all.
    let is : c.push.new.self.items ≡ c.args.self.now.ranges.items ++ begun_range c.args.self.now.columns c.args.range ∷ [] =
    c.in_ok-push.ensures.items ∙ ap (λ (summary : RangeSummary). c.args.self.now.ranges.items ++ record { range = c.args.range; summary = summary } ∷ []) c.in_ok-summary.ensures in
    subst (AreOfColumns c.args.self.now.columns) (sym is)
    (begun_columns c.args.self.now.columns c.args.range c.args.self.now.ranges.items all)

pub returns-clause-held : goal.returns-clause-held
returns-clause-held c = λ spec rows same held.
    let is : c.push.new.self.items ≡ c.args.self.now.ranges.items ++ begun_range c.args.self.now.columns c.args.range ∷ [] =
    c.in_ok-push.ensures.items ∙ ap (λ (summary : RangeSummary). c.args.self.now.ranges.items ++ record { range = c.args.range; summary = summary } ∷ []) c.in_ok-summary.ensures in
    subst (HoldRanges spec rows) (sym is)
    (hold_begun spec rows c.args.self.now.ranges.items c.args.self.now.columns c.args.range same held)
