use Rattle.std.proofs.Common.{◌≢◌, ◌∷◌, [], ap, length, length-append, arith}
use Rattle.std.proofs.lemmas.Bool.Decides.{nat_tests}
use Rattle.shared_tape.proofs.StepsBack.{piece_left, read_none_yet, read_more, some_left, starts_as_read}
use Rattle.shared_tape.proofs.refill.+read_known.Goals as goal

pub returns-in_default : goal.returns-in_default
returns-in_default t c = rw (c.in_default.ensures.1) (read_none_yet _ c.requires)

pub read_known-requires : goal.read_known-requires
read_known-requires t c = (omega (arith, c.decreases, ap length c.in-Some.ensures, length-append c.pop.new.self (c.in-Some.spare ∷ [])), c.requires)

pub read_value-requires : goal.read_value-requires
read_value-requires t c =
    let size : length c.in_ok-behind.behind.now ≢ 0 = grind (arith, nat_tests) in
    piece_left _ _ _ c.in_ok-behind.ensures (some_left _ size)

pub returns : goal.returns
returns t c =
    let size : length c.in_ok-behind.behind.now ≢ 0 = grind (arith, nat_tests) in
    let some = some_left _ size in
    let starts = starts_as_read _ _ _ _ (piece_left _ _ _ c.in_ok-behind.ensures some) c.in_ok-value.ensures.value
    c.in_ok-value.ensures.left in
    read_more _ _ _ _ _ _ c.in_ok-behind.ensures some starts c.in_ok-push.ensures
