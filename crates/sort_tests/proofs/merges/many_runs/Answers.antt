use Rattle.std.proofs.Common.{◌≡◌, ◌∷◌, []}
use Rattle.std.proofs.lemmas.List.Elements.{All-push}
use Rattle.sort_tests.specs.declared.merges.TheConstants.{ASCENDING}
use Rattle.sort_tests.proofs.merges.many_runs.Goals as goal

pub loop-number-preserved : goal.loop-number-preserved
loop-number-preserved c =
    rw c.in_ok-put_run.ensures (All-push (λ run. run.order ≡ ASCENDING ∷ []) c.loop-number.tape _
    c.loop-number.invariant c.in_ok-run_of.ensures)
