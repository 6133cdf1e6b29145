use Rattle.std.proofs.Common.{◌≡◌, ◌∷◌, ◌++◌, [], List, ap, ◌∙◌}
use Rattle.shared_tape.specs.Runs.{RunView}
use Rattle.spool.proofs.Spooling.{put_away, bounded, bounded_more}
use Rattle.spool.proofs.spool.put_away.Goals as goal

put_behind : (c : goal.After-push_back_reserved)
    → c.push_back_reserved.new.self.items ≡ c.args.full.now.items ++ c.into_run.result ∷ []
put_behind c =
    c.push_back_reserved.ensures.items
    ∙ ap (λ (runs : List RunView). runs ++ c.into_run.result ∷ []) c.reserve.ensures.items

pub returns-in_ok-reserve-clause-records : goal.returns-in_ok-reserve-clause-records
returns-in_ok-reserve-clause-records c = put_away _ _ _ _ c.into_run.ensures.records (put_behind c)

pub returns-in_ok-reserve-clause-runs : goal.returns-in_ok-reserve-clause-runs
returns-in_ok-reserve-clause-runs c most full few =
    bounded_more _ most _ _ _ full
    (bounded _ most _ _ few c.into_run.ensures.order c.into_run.ensures.records c.into_run.ensures.run) (put_behind c)
