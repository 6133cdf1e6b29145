use Rattle.std.proofs.Common.{◌≡◌, ◌≤◌, ◌-◌, ◌/◌, ◌%◌, ◌^◌, nat_eq, if◌then◌else◌, arith}
use Rattle.brin_summary.proofs.RangeReading.{pair-none, pair-there, present-fits, present-step}
use Rattle.brin_summary.proofs.tuple_head.TupleHead.present.Goals as goal
use Rattle.brin_summary.proofs.tuple_head.TupleHead.present.Goals.{then-self-at-eq1, else-self-at-eq1}

pub overflow_mul-present : goal.overflow_mul-present
overflow_mul-present c =
    let room = present-fits c.args.columns c.args.self.now.bits c.loop-at.at c.loop-at.present c.loop-at-test.true c.loop-at.auto.at c.requires c.loop-at.invariant in
    omega arith

pub overflow_add-present : goal.overflow_add-present
overflow_add-present c =
    let room = present-fits c.args.columns c.args.self.now.bits c.loop-at.at c.loop-at.present c.loop-at-test.true c.loop-at.auto.at c.requires c.loop-at.invariant in
    let most : c.if-self-at-eq1.pair ≤ 3 =
    elim c.if-self-at-eq1.branch [ then-self-at-eq1 w ↦ (let is = w.pair-is in omega arith) | else-self-at-eq1 w ↦ (let is = w.pair-is in omega arith) ] in
    omega arith

pub loop-at-preserved : goal.loop-at-preserved
loop-at-preserved c =
    let pair : c.if-self-at-eq1.pair ≡ (if nat_eq (c.args.self.now.bits / 2 ^ (c.loop-at.at - 1) % 2) 1 then 0 else 3) =
    elim c.if-self-at-eq1.branch [
      | then-self-at-eq1 w ↦ pair-none (c.args.self.now.bits / 2 ^ (c.loop-at.at - 1)) c.if-self-at-eq1.pair w.if-self-at-eq1.true w.pair-is
      | else-self-at-eq1 w ↦ pair-there (c.args.self.now.bits / 2 ^ (c.loop-at.at - 1)) c.if-self-at-eq1.pair w.if-self-at-eq1.false w.pair-is
    ] in
    present-step c.args.columns c.args.self.now.bits c.loop-at.at c.loop-at.present c.if-self-at-eq1.pair c.loop-at-test.true c.loop-at.auto.at c.loop-at.invariant pair
