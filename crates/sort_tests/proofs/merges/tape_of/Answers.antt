use Rattle.std.proofs.Common.{◌≡◌, ◌∷◌, []}
use Rattle.std.proofs.lemmas.List.Elements.{All-push}
use Rattle.sort_tests.proofs.merges.tape_of.Goals as goal

pub loop-rows-preserved : goal.loop-rows-preserved
loop-rows-preserved c =
    rw c.in_ok-put_run.ensures (All-push (λ run. run.order ≡ c.args.part ∷ []) c.loop-rows.tape _
    c.loop-rows.invariant c.in_ok-run_of.ensures)
