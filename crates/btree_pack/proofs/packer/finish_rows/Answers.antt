use Rattle.std.proofs.Common.{ℕ, length, ap, ◌∙◌, subst}
use Rattle.std.specs.Prelude.{All, ◌==◌}
use Rattle.btree_pack.specs.Images.{images_of}
use Rattle.btree_pack.specs.Laws.{IsSmall}
use Rattle.btree_pack.specs.Leaves.{leaf_items}
use Rattle.btree_pack.specs.Pass.Packed.{packed}
use Rattle.btree_pack.specs.Pass.Sight.{fillfactor_of, packing_of}
use Rattle.btree_pack.specs.declared.grouper.Grouper.{Grouper}
use Rattle.btree_pack.specs.declared.open_leaves.OpenLeaves.{OpenLeaves}
use Rattle.btree_pack.proofs.Puts.{alone-is, file-of-rows}
use Rattle.btree_pack.proofs.packer.finish_rows.Goals as goal

pub returns : goal.returns
returns c =
    λ spec kinds put has.
    let old : Grouper = c.args.rows in
    let made = c.in_ok-put_last.ensures in
    let leaves : OpenLeaves = c.put_last.new.leaves in
    let all = made.packed put has.packed in
    let rows : Grouper = c.put_last.new.rows in
    let equal = ap (λ (n : ℕ). rows.keys == n) (c.len.ensures ∙ ap length (made.same.kinds ∙ has.kinds_are)) ∙ alone-is spec kinds rows.keys (made.same.keys ∙ has.keys) has.columns in
    let items_are = ap (λ k. leaf_items (images_of k old.keys) old.shares put) has.kinds_are in
    file-of-rows spec kinds old.keys (fillfactor_of leaves.tower) old.shares _ put (packing_of leaves.tower) c.in_ok-file.file
    has.keys has.shares (made.fillfactor ∙ has.fillfactor) equal
    (all.packing ∙ ap (packed (fillfactor_of leaves.tower)) items_are)
    (subst (All IsSmall) items_are all.small) c.in_ok-file.ensures.file
