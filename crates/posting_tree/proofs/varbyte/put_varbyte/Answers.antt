use Rattle.std.proofs.Common.{refl}
use Rattle.posting_tree.proofs.Fronts.{front-added, front-itself}
use Rattle.posting_tree.proofs.Varbytes.{completes-last, completes-more}
use Rattle.posting_tree.specs.Segments.{varbyte}
use Rattle.posting_tree.proofs.varbyte.put_varbyte.Goals as goal

pub loop-rest-init : goal.loop-rest-init
unfolding varbyte
loop-rest-init c = record { whole = record { more = 6; fits = c.requires; whole = refl }; front = front-itself _ }

pub loop-rest-preserved : goal.loop-rest-preserved
loop-rest-preserved c = record {
  whole = completes-more _ _ _ _ c.loop-rest.invariant.whole c.loop-rest-test.true c.in_ok-push.ensures.items;
  front = front-added _ _ _ _ c.loop-rest.invariant.front c.in_ok-push.ensures.items;
}

pub returns-clause-ok : goal.returns-clause-ok
returns-clause-ok c = completes-last _ _ _ _ c.loop-rest.invariant.whole c.loop-rest-test.false c.in_ok-push-2.ensures.items
