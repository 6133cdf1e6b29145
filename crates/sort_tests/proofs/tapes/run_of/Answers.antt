use Rattle.std.proofs.Common.{subst, sym, ◌∙◌, refl}
use Rattle.std.proofs.lemmas.List.{take_all}
use Rattle.std.proofs.lemmas.List.Elements.{All-more, All-same}
use Rattle.shared_tape.specs.Stored.{IsStorable}
use Rattle.sort_tests.proofs.tapes.run_of.Goals as goal

pub loop-row-preserved : goal.loop-row-preserved
loop-row-preserved c =
    All-more (IsStorable c.args.order.now) _ _ c.row-item.result c.loop-row-test.true c.loop-row.invariant
    (subst (IsStorable c.args.order.now) c.row-item.is (c.if-not-is_small.ensures refl))

pub build-requires : goal.build-requires
build-requires c =
    All-same (IsStorable c.args.order.now) _ _ (sym c.deref-row-items.ensures.value ∙ sym (take_all _ _ c.loop-row-test.false)) c.loop-row.invariant
