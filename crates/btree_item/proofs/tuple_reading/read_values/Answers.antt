use Rattle.std.proofs.Common.{rules, arith}
use Rattle.std.proofs.lemmas.List.{take_rest}
use Rattle.btree_item.proofs.TupleFronts.{some-there}
use Rattle.btree_item.proofs.TupleReads.{high-only, low-only}
use Rattle.btree_item.proofs.tuple_reading.read_values.Goals as goal

pub returns-then-u16_at-lt-HAS_NULL-clause-only : goal.returns-then-u16_at-lt-HAS_NULL-clause-only
returns-then-u16_at-lt-HAS_NULL-clause-only c =
    low-only c.args.kinds.now c.args.bytes.now _ _ c.read_present.result (search (rules, take_rest)) (search rules) (search rules)
    c.read_present.ensures.only

pub returns-then-bytes-lt-BEHIND_BITMAP-clause-only :
    goal.returns-then-bytes-lt-BEHIND_BITMAP-clause-only
returns-then-bytes-lt-BEHIND_BITMAP-clause-only c = λ front size values b.
    let info = c.u16_at.ensures in
    let high = c.if-u16_at-lt-HAS_NULL.false in
    let long = (some-there c.args.kinds.now c.args.bytes.now front size values c.requires.few b (omega arith)).long in
    let few = c.if-bytes-lt-BEHIND_BITMAP.true in
    absurd (omega arith)

pub returns-else-bytes-lt-BEHIND_BITMAP-clause-only :
    goal.returns-else-bytes-lt-BEHIND_BITMAP-clause-only
returns-else-bytes-lt-BEHIND_BITMAP-clause-only c =
    high-only c.args.kinds.now c.args.bytes.now _ _ c.read_present-else-bytes-lt-BEHIND_BITMAP.result c.requires.few (search (rules, take_rest)) (search rules) (search rules)
    c.read_present-else-bytes-lt-BEHIND_BITMAP.ensures.only
