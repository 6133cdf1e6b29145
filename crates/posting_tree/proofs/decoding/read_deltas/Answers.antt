use Rattle.std.proofs.Common.{arith}
use Rattle.posting_tree.proofs.Fronts.{is-empty, not-empty}
use Rattle.posting_tree.proofs.ReadDeltas.{lead-end, lead-none, no-delta, no-pointer, read-more, shorter-delta, zero-delta}
use Rattle.posting_tree.proofs.decoding.read_deltas.Goals as goal

pub returns-in_default : goal.returns-in_default
returns-in_default c = lead-none _ _ _ _ _ c.loop-left.invariant.read.lead (no-delta _ _ (not-empty _ c.loop-left-test.ensures) c.in_default.ensures)

pub returns-then-delta-eq0 : goal.returns-then-delta-eq0
returns-then-delta-eq0 c =
    lead-none _ _ _ _ _ c.loop-left.invariant.read.lead (zero-delta _ _ _ _ (not-empty _ c.loop-left-test.ensures) c.in-Some.ensures c.if-delta-eq0.true)

pub returns-in_default-pointer_behind : goal.returns-in_default-pointer_behind
returns-in_default-pointer_behind c =
    lead-none _ _ _ _ _ c.loop-left.invariant.read.lead (no-pointer _ _ _ _ (not-empty _ c.loop-left-test.ensures) c.in-Some.ensures c.in_default-pointer_behind.ensures)

pub loop-left-smaller : goal.loop-left-smaller
loop-left-smaller c = let e = shorter-delta _ _ _ c.in-Some.ensures in omega arith

pub loop-left-preserved : goal.loop-left-preserved
loop-left-preserved c = record {
  read = read-more _ _ _ _ _ _ _ _ _ _ _ c.loop-left.invariant.read (not-empty _ c.loop-left-test.ensures) c.in-Some.ensures (omega arith) c.in-Some-pointer_behind.ensures
      c.number_of-last.ensures.number c.in_ok-push.ensures.items;
  small = c.number_of-last.ensures.bound;
}

pub returns : goal.returns
returns c = lead-end _ _ _ _ _ _ _ c.loop-left.invariant.read.lead (is-empty _ c.loop-left-test.ensures) c.loop-left.invariant.read.put
