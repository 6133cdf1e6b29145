use Rattle.std.proofs.Common.{◌≡◌, ap, ◌∙◌}
use Rattle.pg_bytes.specs.declared.line_ptr.LinePtr.{LinePtr}
use Rattle.heap_page.specs.Tuple.{header_at, header_of}
use Rattle.std.proofs.lemmas.Bool.{false≢true}
use Rattle.heap_page.proofs.Least.{unsettled-least}
use Rattle.heap_page.proofs.Marks.{marked-map}
use Rattle.heap_page.proofs.item.check_normal.Goals as goal

pub returns-clause-map : goal.returns-clause-map
returns-clause-map c =
    marked-map c.args.page.now.bytes c.args.item c.args.units.now.marked c.mark.new.self.marked c.args.line c.units_of-first.result.0 c.units_of-first.result.1
    c.requires.line c.requires.map c.requires.normal (λ bad. false≢true (c.if-is_misplaced.ensures.1 bad))
    c.units_of-first.ensures.first c.units_of-first.ensures.end c.mark.ensures

pub returns-then-not-is_settled-clause-refused : goal.returns-then-not-is_settled-clause-refused
returns-then-not-is_settled-clause-refused c =
    let here : c.header_at-header.result ≡ header_of c.args.page.now.bytes c.args.item =
    c.header_at-header.ensures ∙ ap (header_at c.args.page.now.bytes) (c.from.ensures ∙ ap (λ (l : LinePtr). l.offset) c.requires.line) in
    unsettled-least c.args.page.now.bytes c.args.page.now.columns c.args.item c.args.line c.header_at-header.result c.requires.line here c.requires.normal
    (λ bad. false≢true (c.if-is_misplaced.ensures.1 bad)) (λ bad. false≢true (c.if-is_unfit.ensures.1 bad)) (λ known. false≢true (c.if-not-is_settled.ensures.1 known))
