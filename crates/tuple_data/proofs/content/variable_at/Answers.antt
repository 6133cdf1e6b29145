use Rattle.std.proofs.Common.{sym, ◌∙◌}
use Rattle.tuple_data.proofs.ReadContent.{cases_of}
use Rattle.tuple_data.proofs.ReadVariable.{long_is_there, long_stands, short_is_there, short_stands, tail_is}
use Rattle.tuple_data.proofs.content.variable_at.Goals as goal

pub returns-then-first-eq1 : goal.returns-then-first-eq1
returns-then-first-eq1 c =
    cases_of c.short_at.result c.short_at.ensures
    (λ none own behind whole.
    let is = short_is_there c.args.place c.args.bytes.now own behind c.if-first-eq1.true whole in
    none own behind is.0 (tail_is c.args.bytes.now ∙ is.1))
    (λ parts is.
    short_stands c.args.place c.args.bytes.now parts.0.now parts.1.now c.in-len1-up.len_at_least (c.type_inv.bytes 0).fits is.0 (sym (tail_is c.args.bytes.now) ∙ is.1))

pub returns-else-first-eq1 : goal.returns-else-first-eq1
returns-else-first-eq1 c =
    cases_of c.long_at.result c.long_at.ensures
    (λ none own behind whole.
    let is = long_is_there c.args.place c.args.bytes.now own behind c.if-first-eq1.false c.requires.size whole in
    none own behind is.long is.fits is.whole)
    (λ parts is. long_stands c.args.place c.args.bytes.now parts.0.now parts.1.now is.0 is.1)
