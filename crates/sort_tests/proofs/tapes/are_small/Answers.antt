use Rattle.std.proofs.Common.{subst, arith, ap, refl}
use Rattle.std.proofs.lemmas.List.Elements.{All-more}
use Rattle.std.proofs.lemmas.List.Sums.{sum_by_more}
use Rattle.opclass.specs.Norm.{IsKeyValue}
use Rattle.shared_tape.specs.Laws.{value_room}
use Rattle.sort_tests.proofs.tapes.are_small.Goals as goal

pub loop-value-preserved : goal.loop-value-preserved
loop-value-preserved c = record {
  values =
      All-more IsKeyValue _ _ c.value-item.result c.loop-value-test.true c.loop-value.invariant.values
      (subst IsKeyValue c.value-item.is (c.if-not-is_small_value.ensures.value refl));
  short =
      omega (
        arith,
        c.loop-value.invariant.short,
        sum_by_more value_room c.args.values.now c.loop-value.value-index c.value-item.result c.loop-value-test.true,
        ap value_room c.value-item.is,
        c.if-not-is_small_value.ensures.short refl,
      );
}
