use Rattle.std.proofs.Common.{◌≡◌, ◌+◌, ap, ◌∙◌, arith}
use Rattle.opclass.specs.declared.types.TypeFacts.{TypeFacts}
use Rattle.opclass.specs.Types.{facts_of}
use Rattle.heap_row.specs.Array.{size_of}
use Rattle.heap_row.proofs.Elements.{end_lifted}
use Rattle.heap_row.proofs.Facts.{alignments_fit}
use Rattle.heap_row.proofs.Places.{rounded_bounds}
use Rattle.heap_row.proofs.array.element_behind.Goals as goal

pub returns-else-null-clause-end : goal.returns-else-null-clause-end
returns-else-null-clause-end c =
    let fits = alignments_fit c.args.element in
    let unit : c.from-unit.result ≡ (facts_of c.args.element).alignment = c.from-unit.ensures ∙ ap (λ (facts : TypeFacts). facts.alignment) c.facts.ensures in
    let above = rounded_bounds c.from-unit.result c.args.place (omega arith) in
    end_lifted c.element_at.result c.rounded_up.result (c.args.place + 8) (size_of c.args.content.now) (omega (arith, c.rounded_up.ensures)) c.element_at.ensures.end
