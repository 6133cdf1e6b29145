use Rattle.std.proofs.Common.{◌≡◌, ◌∙◌, ◌++◌, sym, subst, ap}
use Rattle.std.specs.List.{slice_range}
use Rattle.std.specs.Option.{option_copied}
use Rattle.std.proofs.lemmas.List.Elements.{All-push}
use Rattle.run_merge.specs.Heads.{IsHead, left_at, left_of, run_at}
use Rattle.run_merge.specs.Pass.{records_between}
use Rattle.run_merge.proofs.Gathering.{run_found, none_between, flat_map-push}
use Rattle.run_merge.proofs.heads.add_run.Goals as goal

pub returns-in_ok-push-clause-each : goal.returns-in_ok-push-clause-each
returns-in_ok-push-clause-each c =
    rw c.in_ok-push.ensures.items (All-push (IsHead c.args.tapes.now) c.args.heads.now.items c.new.result
    c.requires.each c.new.ensures.head)

pub returns-in_ok-push-clause-left : goal.returns-in_ok-push-clause-left
returns-in_ok-push-clause-left c =
    let tapes = c.args.tapes.now in
    let is = run_found tapes c.args.tape c.args.run c.get.result.now c.run.result.now c.get.ensures c.run.ensures in
    let low = option_copied c.args.between.low in
    let high = option_copied c.args.between.high in
    let found = subst (λ run. slice_range run.records c.places_in-at.result.0 c.places_in-at.result.1 ≡
    records_between low high run) (sym is) c.places_in-at.ensures.records in
    ap (left_of tapes) c.in_ok-push.ensures.items
    ∙ flat_map-push (left_at tapes) c.args.heads.now.items c.new.result
    ∙ ap (λ l. left_of tapes c.args.heads.now.items ++ l) (c.new.ensures.left ∙ found)

pub returns-else-at-end-clause-left : goal.returns-else-at-end-clause-left
returns-else-at-end-clause-left c =
    let tapes = c.args.tapes.now in
    let is = run_found tapes c.args.tape c.args.run c.get.result.now c.run.result.now c.get.ensures c.run.ensures in
    let low = option_copied c.args.between.low in
    let high = option_copied c.args.between.high in
    let found = subst (λ run. slice_range run.records c.places_in-at.result.0 c.places_in-at.result.1 ≡
    records_between low high run) (sym is) c.places_in-at.ensures.records in
    none_between tapes c.args.heads.now.items low high (run_at tapes c.args.tape c.args.run) _ _ c.if-at-end.false found
