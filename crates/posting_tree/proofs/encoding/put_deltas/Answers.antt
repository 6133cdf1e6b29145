use Rattle.std.proofs.Common.{◌≡◌, ℕ, ◌-◌, ◌++◌, length, take, ap, ◌∙◌, arith, length-append}
use Rattle.posting_tree.proofs.Deltas.{Step, blocks-more, step, telescoped}
use Rattle.posting_tree.proofs.Fronts.{front-added}
use Rattle.posting_tree.proofs.Varbytes.{length-varbyte}
use Rattle.posting_tree.specs.Segments.{deltas_behind, varbyte}
use Rattle.posting_tree.proofs.encoding.put_deltas.Goals as goal

pub returns-then-end-len-clause-put : goal.returns-then-end-len-clause-put
returns-then-end-len-clause-put c = telescoped _ _ _ _ _ c.loop-at.invariant.put

pub loop-at-preserved : goal.loop-at-preserved
loop-at-preserved c =
    let put = c.in_ok-put_varbyte.ensures.ok in
    let one : Step c.args.out.now.items c.put_varbyte.new.out.items c.args.number c.number_of-next.result c.args.ptrs.now c.loop-at.at =
    step _ _ _ _ _ _ _ _ _ c.loop-at-test.true c.loop-at.invariant.put c.loop-at.invariant.ascends c.number_of-next.ensures.number put in
    let longer = ap length put ∙ length-append c.loop-at.out.items (varbyte (c.number_of-next.result - c.loop-at.last)) in
    let seven = length-varbyte (c.number_of-next.result - c.loop-at.last) in
    record {
      put = one.put;
      ascends = one.ascends;
      within = omega arith;
      room = omega arith;
      blocks = blocks-more _ _ _ c.loop-at-test.true c.loop-at.invariant.blocks c.number_of-next.ensures.block;
      front = front-added _ _ _ _ c.loop-at.invariant.front put;
    }

pub returns-clause-put : goal.returns-clause-put
returns-clause-put c = telescoped _ _ _ _ _ c.loop-at.invariant.put
    ∙ (let end : c.loop-at.at ≡ length c.args.ptrs.now = omega arith in
    ap (λ (count : ℕ). c.args.out.now.items ++ deltas_behind c.args.number (take count c.args.ptrs.now)) end)
