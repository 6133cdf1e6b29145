use Rattle.std.proofs.Common.{arith}
use Rattle.posting_tree.proofs.ReadSegments.{no-deltas, no-segment, not-behind, reads-segment}
use Rattle.posting_tree.proofs.decoding.read_segment.Goals as goal

pub returns-in_default : goal.returns-in_default
returns-in_default c = no-segment _ _ c.requires c.in_default.ensures

pub returns-then-number-last : goal.returns-then-number-last
returns-then-number-last c = not-behind _ _ _ _ _ c.requires c.in-Some.ensures (let e = c.number_of-number.ensures.number in omega (arith, c.if-number-last.true))

pub returns-in-Some-2 : goal.returns-in-Some-2
returns-in-Some-2 c =
    reads-segment _ _ _ _ _ _ _ _ _ _ c.requires c.number_of-number.ensures.number c.if-number-last.false c.in-Some.ensures c.in_ok-push.ensures.items
    (rw c.in-Some-2.is at c.in_ok-next.ensures)

pub returns-in-None : goal.returns-in-None
returns-in-None c =
    let none = rw c.in-None.is at c.in_ok-next.ensures in
    no-deltas _ _ _ _ _ c.requires c.in-Some.ensures (rw (← c.number_of-number.ensures.number) none)
