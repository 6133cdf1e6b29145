use Rattle.std.proofs.Common.{◌+◌, ◌-◌, ◌/◌, ◌<◌, ◌∙◌, sym, ap, arith, length}
use Rattle.std.specs.Ordering.{is_lt}
use Rattle.opclass.specs.Order.{bytes_cmp}
use Rattle.shared_tape.specs.Runs.{order_list}
use Rattle.run_merge.proofs.Finding.{below_more, from_more, order_list_ascends, bytes_weak, length-order_list}
use Rattle.std.proofs.lemmas.Option.{get_or_from_slice_get}
use Rattle.run_merge.proofs.between.first_from.Goals as goal

pub loop-low-preserved-then-is_lt : goal.loop-low-preserved-then-is_lt
loop-low-preserved-then-is_lt c =
    let was = c.loop-low.invariant in
    let cut = c.args.cut.now in
    let run = c.args.run.now in
    let is = get_or_from_slice_get (order_list run) (c.loop-low.low + (c.loop-low.high - c.loop-low.low) / 2)
    c.order_at.result.now cut c.order_at.ensures in
    let in' : c.loop-low.low + (c.loop-low.high - c.loop-low.low) / 2 < length (order_list run) =
    omega (arith, length-order_list run) in
    record {
      sound = was.sound;
      order = omega arith;
      within = was.within;
      below = below_more _ bytes_weak (order_list run) (order_list_ascends run was.sound) cut _ cut in'
          (ap (λ bytes. is_lt (bytes_cmp bytes cut)) is ∙ sym (ap is_lt c.cmp.ensures) ∙ sym c.is_lt.ensures
          ∙ c.if-is_lt.true);
      from = was.from;
    }

pub loop-low-preserved : goal.loop-low-preserved
loop-low-preserved c =
    let was = c.loop-low.invariant in
    let cut = c.args.cut.now in
    let run = c.args.run.now in
    let is = get_or_from_slice_get (order_list run) (c.loop-low.low + (c.loop-low.high - c.loop-low.low) / 2)
    c.order_at.result.now cut c.order_at.ensures in
    let in' : c.loop-low.low + (c.loop-low.high - c.loop-low.low) / 2 < length (order_list run) =
    omega (arith, length-order_list run) in
    record {
      sound = was.sound;
      order = omega arith;
      within = omega arith;
      below = was.below;
      from = from_more _ bytes_weak (order_list run) (order_list_ascends run was.sound) cut _ cut in'
          (ap (λ bytes. is_lt (bytes_cmp bytes cut)) is ∙ sym (ap is_lt c.cmp.ensures) ∙ sym c.is_lt.ensures
          ∙ c.if-is_lt.false);
    }
