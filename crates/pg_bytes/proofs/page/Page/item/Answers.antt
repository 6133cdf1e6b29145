use Rattle.std.proofs.Common.{Some, ap, sym, ◌∙◌}
use Rattle.pg_bytes.proofs.LineReading.{item_at-is}
use Rattle.pg_bytes.specs.Lines.{bytes_of}
use Rattle.pg_bytes.proofs.page.Page.item.Goals as goal

pub returns-in-Some-clause-item : goal.returns-in-Some-clause-item
returns-in-Some-clause-item c =
    let line = c.in-Some.ensures.line in
    item_at-is c.args.self.now c.args.number line.0
    ∙ ap (λ l. Some (bytes_of c.args.self.now l)) (sym line.1)
    ∙ ap Some (sym c.bytes_of.ensures.value)
