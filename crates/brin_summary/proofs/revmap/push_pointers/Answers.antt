use Rattle.brin_summary.proofs.Pointers.{push-more}
use Rattle.brin_summary.proofs.revmap.push_pointers.Goals as goal

pub loop-offset-preserved : goal.loop-offset-preserved
loop-offset-preserved c =
    push-more c.args.block c.loop-offset.offset c.args.pointers.now.items c.loop-offset.pointers.items c.push.new.self.items
    c.loop-offset.auto.offset c.loop-offset.invariant c.in_ok-push.ensures.items
