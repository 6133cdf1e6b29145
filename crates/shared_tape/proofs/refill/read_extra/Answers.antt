use Rattle.std.proofs.Common.{◌≢◌, ◌≡◌, length, arith}
use Rattle.std.proofs.lemmas.Bool.Decides.{nat_tests}
use Rattle.shared_tape.proofs.StepsBack.{piece_left, piece_shorter, read_more, read_all, none_left, some_left, starts_as_read}
use Rattle.shared_tape.proofs.refill.read_extra.Goals as goal

pub loop-left-init : goal.loop-left-init
loop-left-init c = c.in_ok-left.ensures

pub read_value-requires : goal.read_value-requires
read_value-requires c =
    let size : length c.loop-left.left.now ≢ 0 = grind (arith, nat_tests) in
    piece_left _ _ _ c.loop-left.invariant (some_left _ size)

pub loop-left-smaller : goal.loop-left-smaller
loop-left-smaller c =
    let size : length c.loop-left.left.now ≢ 0 = grind (arith, nat_tests) in
    piece_shorter _ _ _ (starts_as_read _ _ _ _ (piece_left _ _ _ c.loop-left.invariant (some_left _ size))
    c.in_ok-value.ensures.value c.in_ok-value.ensures.left)

pub loop-left-preserved : goal.loop-left-preserved
loop-left-preserved c =
    let size : length c.loop-left.left.now ≢ 0 = grind (arith, nat_tests) in
    let some = some_left _ size in
    read_more _ _ _ _ _ _ c.loop-left.invariant some
    (starts_as_read _ _ _ _ (piece_left _ _ _ c.loop-left.invariant some) c.in_ok-value.ensures.value
    c.in_ok-value.ensures.left)
    c.in_ok-push.ensures

pub returns : goal.returns
returns c =
    let size : length c.loop-left.left.now ≡ 0 = grind (arith, nat_tests) in
    read_all _ _ _ c.loop-left.invariant (none_left _ size)
