use Rattle.std.proofs.Common.{◌≡◌, ◌<◌, ◌-◌, length, take, length-take, arith}
use Rattle.shared_tape.proofs.StepsBack.{keys_before, key_behind, keys_read}
use Rattle.shared_tape.proofs.refill.+read_keys.Goals as goal

pub read_keys-requires : goal.read_keys-requires
read_keys-requires t c =
    let parts = c.args.parts.now in
    let some = c.in-len1-up.len_at_least in
    let whole : length parts ≡ t = c.decreases in
    let less : length (take (length parts - 1) parts) < t = omega (arith, some, whole, length-take (length parts - 1) parts) in
    (less, keys_before _ _ some c.requires)

pub read_value-requires : goal.read_value-requires
read_value-requires t c = key_behind _ _ _ c.in-len1-up.len_at_least c.requires c.in_ok-behind.ensures.left

pub returns-clause-keys : goal.returns-clause-keys
returns-clause-keys t c =
    (keys_read _ _ _ _ _ _ _ c.in-len1-up.len_at_least c.in_ok-behind.ensures.keys c.in_ok-behind.ensures.left
    c.in_ok-value.ensures.value c.in_ok-value.ensures.left c.in_ok-push.ensures).0

pub returns-clause-left : goal.returns-clause-left
returns-clause-left t c =
    (keys_read _ _ _ _ _ _ _ c.in-len1-up.len_at_least c.in_ok-behind.ensures.keys c.in_ok-behind.ensures.left
    c.in_ok-value.ensures.value c.in_ok-value.ensures.left c.in_ok-push.ensures).1
