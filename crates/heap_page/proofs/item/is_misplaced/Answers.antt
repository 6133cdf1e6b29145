use Rattle.std.proofs.lemmas.Bool.{false≢true}
use Rattle.heap_page.proofs.Overlap.{misplaced-by-units}
use Rattle.heap_page.proofs.item.is_misplaced.Goals as goal

pub returns : goal.returns
returns c =
    misplaced-by-units c.args.page.now c.args.item c.args.units.now.marked c.args.line c.units_of-first.result.0 c.units_of-first.result.1 c.is_free.result
    c.requires.line c.requires.map (λ out. false≢true (c.if-is_out_of_place.ensures.1 out))
    c.units_of-first.ensures.first c.units_of-first.ensures.end c.is_free.ensures
