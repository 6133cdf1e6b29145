use Rattle.std.proofs.Common.{◌≡◌, ◌<◌, Some, sym, subst, arith, length, slice_get}
use Rattle.std.proofs.lemmas.Option.{get_or_from_slice_get}
use Rattle.run_merge.specs.Heads.{no_run}
use Rattle.run_merge.proofs.InOrder.{next_row, ordered_gives}
use Rattle.run_merge.proofs.ordered_runs.OrderedRuns.next_into.Goals as goal

pub returns-clause-given : goal.returns-clause-given
returns-clause-given c =
    let o = c.self.inside in
    let place = c.self.invariant.place in
    let h : o.run < length o.runs = omega (arith, place.within, c.runs.ensures) in
    let found = get_or_from_slice_get o.runs o.run c.run-2.result.now no_run c.run-2.ensures in
    let read = subst (λ r. slice_get r.records o.at ≡ Some c.read_into.new.row) (sym found) c.in_ok-read_into.ensures in
    rw (← c.self.view_is)
    (ordered_gives o.runs o.run o.at _ _ c.read_into.new.row c.self.invariant.stand
    (next_row o.runs o.run o.at c.read_into.new.row h read (place.there h)) c.skip_empty-run.ensures.left)
