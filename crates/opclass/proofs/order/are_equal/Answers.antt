use Rattle.std.proofs.Common.{[], ap, ◌∙◌}
use Rattle.std.specs.Ordering.{is_eq}
use Rattle.opclass.specs.Order.{key_cmp}
use Rattle.opclass.proofs.KeyOrder.{is_eq-key_cmp}
use Rattle.opclass.proofs.order.are_equal.Goals as goal

pub returns : goal.returns
returns c =
    is_eq-key_cmp [] c.args.a.now c.args.b.now c.is_eq.result
    (c.is_eq.ensures ∙ ap is_eq (c.cmp_values.ensures ∙ (λ i. key_cmp [] (c.as_slice.ensures i) (c.as_slice-2.ensures i))))
