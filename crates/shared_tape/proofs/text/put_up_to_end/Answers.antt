use Rattle.std.proofs.Common.{◌≡◌, ◌≢◌, ◌++◌, ◌∷◌, [], slice_index, refl, arith}
use Rattle.std.proofs.lemmas.Grind.{common_steps}
use Rattle.std.proofs.lemmas.Bool.Decides.{nat_tests}
use Rattle.shared_tape.proofs.Texts.{put_start, put_end, put_short, put_next}
use Rattle.shared_tape.proofs.text.put_up_to_end.Goals as goal

pub loop-left-init : goal.loop-left-init
loop-left-init c = put_start _ _ _ _ _ c.in_ok-left.ensures

pub returns-then-second-mark-clause-text : goal.returns-then-second-mark-clause-text
returns-then-second-mark-clause-text c =
    let second : slice_index c.loop-left.left.now 1 ≡ c.args.mark = grind (arith, nat_tests) in
    (put_end _ _ _ _ _ _ c.loop-left.invariant refl c.in-len2-up.len_at_least second).0

pub returns-then-second-mark-clause-left : goal.returns-then-second-mark-clause-left
returns-then-second-mark-clause-left c =
    let second : slice_index c.loop-left.left.now 1 ≡ c.args.mark = grind (arith, nat_tests) in
    (put_end _ _ _ _ _ _ c.loop-left.invariant refl c.in-len2-up.len_at_least second).1

pub loop-left-preserved : goal.loop-left-preserved
loop-left-preserved c =
    let other : slice_index c.loop-left.left.now 1 ≢ c.args.mark = λ e. grind (arith, nat_tests) in
    let put : c.push.new.self.items ≡ c.loop-left.text.items ++ c.args.mark ∷ [] = grind (arith, common_steps, c.in_ok-push.ensures.items) in
    put_next _ _ _ _ _ _ _ _ _ c.loop-left.invariant c.in_ok-left-2.ensures refl c.in-len2-up.len_at_least other put

pub returns-clause-text : goal.returns-clause-text
returns-clause-text c = (put_short _ _ _ _ _ c.loop-left.invariant c.in_default.len_below).0

pub returns-clause-left : goal.returns-clause-left
returns-clause-left c = (put_short _ _ _ _ _ c.loop-left.invariant c.in_default.len_below).1
