use Rattle.posting_tree.proofs.Fronts.{is-empty}
use Rattle.posting_tree.proofs.ReadSegments.{lead-end, lead-none, lead-read, lead-start}
use Rattle.posting_tree.proofs.decoding.decode.Goals as goal

pub loop-left-init : goal.loop-left-init
loop-left-init c = rw c.new-ptrs.ensures.items (lead-start 0 c.args.bytes.now)

pub returns-in_default : goal.returns-in_default
returns-in_default c = lead-none _ _ _ _ c.loop-left.invariant (rw c.in_default.is at c.in_ok-next.ensures)

pub loop-left-preserved : goal.loop-left-preserved
loop-left-preserved c = lead-read _ _ _ _ _ _ _ c.loop-left.invariant (rw c.in-Some.is at c.in_ok-next.ensures)

pub returns : goal.returns
returns c = rw c.from_vec.ensures (lead-end _ _ _ _ c.loop-left.invariant (is-empty _ c.loop-left-test.ensures))
