use Rattle.opclass.specs.declared.types.Width.TheVariants.{Fixed}
use Rattle.tuple_data.proofs.ReadPiece.{content_is, fixed_is_there, known_fit, known_stands}
use Rattle.tuple_data.proofs.piece.read_piece.Goals as goal

pub returns-in-None-fixed_at : goal.returns-in-None-fixed_at
returns-in-None-fixed_at c value behind begins =
    let width = c.in-Fixed.width in
    let facts = c.facts-facts.result in
    let fit = known_fit c.args.kind facts (Fixed width) c.facts-facts.ensures c.in-Fixed.is c.requires.kind in
    let stands = known_stands c.args.kind facts (Fixed width) c.args.place c.args.bytes.now value behind c.facts-facts.ensures c.in-Fixed.is begins in
    let there = fixed_is_there facts.form width facts.alignment c.args.place c.args.bytes.now value behind fit stands in
    c.in-None-fixed_at.ensures there.own behind there.long there.whole

pub returns-in-None-fixed_value : goal.returns-in-None-fixed_value
returns-in-None-fixed_value c value behind begins =
    let width = c.in-Fixed.width in
    let facts = c.facts-facts.result in
    let fit = known_fit c.args.kind facts (Fixed width) c.facts-facts.ensures c.in-Fixed.is c.requires.kind in
    let stands = known_stands c.args.kind facts (Fixed width) c.args.place c.args.bytes.now value behind c.facts-facts.ensures c.in-Fixed.is begins in
    let found = c.in-Some-fixed_at.ensures in
    c.in-None-fixed_value.ensures value
    (content_is facts.form width facts.alignment c.args.place c.args.bytes.now c.in-Some-fixed_at.own.now c.in-Some-fixed_at.behind.now value behind fit found.0 found.1 stands)
