use Rattle.std.proofs.Common.{ap, ◌*◌, ◌∙◌, replicate, ℕ, rules}
use Rattle.opclass.specs.declared.value.KeyVal.TheVariants.{Nil}
use Rattle.brin_summary.proofs.Storing.{no-rows}
use Rattle.brin_summary.proofs.summary.Summary.empty.Goals as goal

pub returns : goal.returns
returns c =
    no-rows c.args.columns c.in_ok-bounds.bounds.items c.in_ok-nulls.nulls.items
    (c.in_ok-bounds.ensures ∙ ap (λ (n : ℕ). replicate (2 * n) Nil) c.from.ensures)
    (search rules)
