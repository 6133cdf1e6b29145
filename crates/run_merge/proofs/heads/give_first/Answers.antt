use Rattle.std.proofs.Common.{◌∙◌, sym, ap}
use Rattle.std.specs.List.{slice_get}
use Rattle.std.proofs.lemmas.Option.{get_or_from_slice_get, slice_get_within}
use Rattle.run_merge.proofs.Firsts.{heap_gives, row_read}
use Rattle.run_merge.proofs.heads.give_first.Goals as goal

pub returns-clause-given : goal.returns-clause-given
returns-clause-given c order have =
    let tapes = c.args.tapes.now in
    let heads = c.args.heads.now.items in
    let head = c.in-Some.first.now in
    let found = ap (λ hs. slice_get hs 0) (sym c.deref.ensures.value) ∙ sym c.in-Some.ensures.value in
    heap_gives order tapes heads c.move_on.new.heads.items head c.read_into.new.row have c.requires.heap
    (slice_get_within heads 0 head found) (sym (get_or_from_slice_get heads 0 head head found))
    (row_read tapes head c.run.result.now c.read_into.new.row c.run.ensures c.in_ok-read_into.ensures)
    c.move_on.ensures.left
