use Rattle.std.proofs.Common.{◌∙◌}
use Rattle.std.specs.Ordering.{is_eq}
use Rattle.std.specs.Cmp.Lexicographic.{slice_cmp}
use Rattle.opclass.specs.Order.{elem_cmp}
use Rattle.btree_item.proofs.Keeping.{same_elements, same_arrays}
use Rattle.btree_item.proofs.truncation.are_same.Goals as goal

pub returns-in-Items-Items : goal.returns-in-Items-Items
returns-in-Items-Items c =
    same_arrays _ _ _ _ _ c.in-Items-Items.is-0 c.in-Items-Items.is-1
    (same_elements _ _ _ (c.are_same_elements.ensures ∙ (λ i. is_eq (slice_cmp elem_cmp (c.as_slice-in-Items-Items.ensures i) (c.as_slice-in-Items-Items-2.ensures i)))))
